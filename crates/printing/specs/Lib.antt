pub mod Marks
pub mod Printed
pub mod Written
pub mod ReadBack
