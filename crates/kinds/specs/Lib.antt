-- Read in this order.
pub mod Bits
pub mod Types
