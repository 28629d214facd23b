-- What is stored into a picture's bytes, for every list of bytes; the contracts cite these. Read in this order.
pub mod Stores
pub mod Log
pub mod Stepping
