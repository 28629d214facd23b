pub mod Storing
pub mod Spread
