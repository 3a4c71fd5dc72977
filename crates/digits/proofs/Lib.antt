pub mod Splice
pub mod Text
pub mod Fields
