pub mod Room
pub mod Values
