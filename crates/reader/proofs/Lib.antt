pub mod Places
pub mod CodeRunning
