-- Read in this order: what a reader must believe is in Places and Runs.
pub mod Places
pub mod Runs
pub mod Fitting
pub mod Apart
