pub mod Lanes
pub mod Told
