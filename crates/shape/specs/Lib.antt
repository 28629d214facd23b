-- Read in this order: where a picture's bytes stand, and what steers, is in Layout and Head.
pub mod Limits
pub mod Answers
pub mod Result
pub mod Layout
pub mod Head
