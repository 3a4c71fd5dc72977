pub mod Told
pub mod Heeled
