pub mod Rooted
pub mod Against
pub mod Held
pub mod Defined
pub mod Values
