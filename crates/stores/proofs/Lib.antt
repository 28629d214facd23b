pub mod Storing
pub mod Within
