pub mod Depth
pub mod Enclosure
