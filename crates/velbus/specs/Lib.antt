pub mod Frames
pub mod Recordings
pub mod Statements
