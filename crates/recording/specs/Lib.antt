pub mod Limits
pub mod Record
pub mod Window
pub mod Examples
pub mod Statements
