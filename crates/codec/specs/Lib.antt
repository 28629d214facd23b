-- Read in this order.
pub mod Documented
pub mod Encoding
pub mod Writing
pub mod Statements
