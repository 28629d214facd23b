pub mod Listed
pub mod Positions
pub mod Ones
