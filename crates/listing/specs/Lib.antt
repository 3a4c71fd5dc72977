pub mod Rows
pub mod Hull
