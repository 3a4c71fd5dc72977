pub mod Required
pub mod Verdict
pub mod Promises
