pub mod Rows
pub mod Arms
pub mod Statuses
pub mod Families
pub mod Dispatch
