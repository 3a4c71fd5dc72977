pub mod CodeDecoding
pub mod CodeTurns
pub mod Text
