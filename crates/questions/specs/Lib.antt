-- Read in this order.
pub mod Question
pub mod Fills
pub mod Replies
pub mod Statements
