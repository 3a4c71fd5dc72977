pub mod Enclosure
mod Values
mod Figures
pub mod Reached
