pub mod Values
pub mod ValidCase
pub mod Shares
pub mod Prints
pub mod Rule
