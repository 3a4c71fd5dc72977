pub mod Quotients
pub mod Figures
pub mod Ratios
pub mod Values
