pub mod CodeReaders
pub mod CodeFrames
pub mod CodeKept
