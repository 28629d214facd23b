-- Read in this order: Write (what writing a record gives), Statements (what holds of it, and of the reader beside it).
pub mod Write
pub mod Statements
