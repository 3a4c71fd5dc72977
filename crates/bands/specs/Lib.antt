pub mod Bands
