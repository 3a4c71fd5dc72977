pub mod Marks
pub mod ByHull
pub mod Verdicts
pub mod Values
