pub mod Standing
pub mod Spelling
pub mod Parts
