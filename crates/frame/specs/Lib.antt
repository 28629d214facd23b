-- Read in this order.
pub mod Identifiers
pub mod Bytes
pub mod Messages
