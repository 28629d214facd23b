-- What a bench makes of a frame.
pub mod Verdicts
