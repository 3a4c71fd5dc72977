pub mod Standing
pub mod Work
pub mod Running
