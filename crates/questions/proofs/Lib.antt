pub mod Replying
pub mod Extents
pub mod Celling
pub mod Filling
pub mod Naming
pub mod Counts
pub mod RowBytes
pub mod Runs
