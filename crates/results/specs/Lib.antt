-- The result word of a call from C.
pub mod Words
