pub mod Bands
mod Values
mod Coefficient
