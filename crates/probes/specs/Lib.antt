pub mod Shares
pub mod Passengers
