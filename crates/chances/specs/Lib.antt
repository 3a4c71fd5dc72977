pub mod Share
pub mod Promises
