pub mod Codes
pub mod Unions
