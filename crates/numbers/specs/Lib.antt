-- What holds of the numbers of crate groups.
pub mod Statements
