-- Read in this order: Number (the bytes of a number, and what reading one finds), Write (what writing one gives).
pub mod Number
pub mod Write
