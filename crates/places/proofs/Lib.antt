pub mod CodePlaces
pub mod Readers
pub mod Fitting
pub mod Apart
