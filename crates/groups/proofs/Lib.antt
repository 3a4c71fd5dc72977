pub mod Group
mod Spans
mod Within
