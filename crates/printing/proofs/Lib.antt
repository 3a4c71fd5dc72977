pub mod Marks
pub mod Frames
pub mod Whole
pub mod Written
pub mod Examples
pub mod ReadBack
