pub mod Enclosure
mod Filling
pub mod Places
pub mod Rounded
pub mod Span
pub mod Table
mod Values
