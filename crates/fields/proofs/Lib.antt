pub mod Examples
pub mod Fields
pub mod Long
pub mod Signed
