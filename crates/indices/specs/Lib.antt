pub mod Index
pub mod Exact
pub mod Promises
