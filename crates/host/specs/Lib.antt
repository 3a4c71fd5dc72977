pub mod Figures
pub mod Version
