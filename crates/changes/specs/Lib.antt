-- What is told to a picture's bytes, for every list of bytes; the contracts cite these. Lanes is how four LEDs are worked out at once.
pub mod Lanes
pub mod Telling
