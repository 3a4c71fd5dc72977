pub mod Figures
pub mod Penetration
pub mod Reached
