-- Read in this order: Leds (a status frame's bytes), Bench (a bench's bytes), Replies (what it tells).
pub mod Leds
pub mod Bench
pub mod Replies
