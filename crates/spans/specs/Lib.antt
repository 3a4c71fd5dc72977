pub mod Rounded
pub mod Span
pub mod Hull
pub mod Table
