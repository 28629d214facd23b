pub mod Replay
pub mod Window
pub mod Parts
pub mod Statements
