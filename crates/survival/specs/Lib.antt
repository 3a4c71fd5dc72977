pub mod Marks
pub mod Survival
pub mod Telling
pub mod Worse
pub mod Passengers
