-- Read in this order: Making (a new bench), Deeds (what a command does to it), Sending (its replies as frames). Eights is how eight LEDs are worked out at once.
pub mod Making
pub mod Deeds
pub mod Sending
pub mod Eights
