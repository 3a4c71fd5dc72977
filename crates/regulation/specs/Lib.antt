-- the regulation itself, and that document 01 is no other
pub mod Regulation
pub mod OfSolas
pub mod RegulationIndex
pub mod OfSolasIndex
pub mod RegulationPassengers
pub mod OfSolasPassengers
pub mod RegulationSums
pub mod OfSolasSums
