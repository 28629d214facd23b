-- What a frame for a bench gives.
pub mod Taking
