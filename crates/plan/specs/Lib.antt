-- Read in this order, after those of crate reads: Replies (the calls on a picture's bytes), Statements (what is shown of them).
pub mod Replies
pub mod Statements
