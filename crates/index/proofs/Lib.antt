pub mod Accepted
mod Reported
