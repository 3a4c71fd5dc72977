-- document 01: shares
pub mod Ship
pub mod Span
pub mod Penetration
pub mod Share
-- document 01: heights, survival and indices
pub mod Height
pub mod Survival
pub mod Index
-- document 02: passenger ships
pub mod Passengers
pub mod Rules
-- what is promised of them
pub mod Count
pub mod Total
pub mod General
pub mod Promises
pub mod Layers
