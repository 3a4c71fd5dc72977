pub mod Hex
pub mod Pairs
pub mod Decode
pub mod Marks
pub mod Examples
