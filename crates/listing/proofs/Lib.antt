pub mod Values
pub mod InNumbers
pub mod HullValues
pub mod HullNumbers
pub mod InGroups
