-- Read in this order.
pub mod Allowed
pub mod Beyond
