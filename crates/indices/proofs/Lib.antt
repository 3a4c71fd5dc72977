pub mod Draughts
pub mod Rows
pub mod Enclosure
pub mod Width
pub mod Sums
pub mod Values
