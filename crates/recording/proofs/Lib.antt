pub mod Ranges
pub mod Entries
pub mod Windows
pub mod Faults
pub mod Mending
pub mod Examples
