pub mod Defaults
pub mod Stands
pub mod Parts
pub mod OfSets
pub mod Entering
pub mod InTurn
pub mod OnSheet
pub mod InLines
