pub mod CodeOpening
