pub mod Splice
pub mod Fields
