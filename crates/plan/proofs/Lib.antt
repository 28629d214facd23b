pub mod CellRow
pub mod Turns
pub mod Passing
pub mod Replying
pub mod Calls
