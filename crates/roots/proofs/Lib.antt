pub mod Root
pub mod RootValue
pub mod Values
