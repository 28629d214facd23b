-- The head of a picture, for every list of bytes; the contracts cite these.
pub mod Fresh
pub mod Steps
