pub mod Meant
pub mod Heard
pub mod Entries
pub mod Frames
pub mod Told
