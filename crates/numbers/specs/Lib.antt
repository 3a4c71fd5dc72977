pub mod Figures
pub mod Ratio
