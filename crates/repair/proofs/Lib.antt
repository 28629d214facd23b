pub mod Mending
pub mod Linked
pub mod Beyond
