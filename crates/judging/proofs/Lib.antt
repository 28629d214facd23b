pub mod Judged
pub mod Numbers
pub mod Faults
pub mod Handed
