pub mod Laid
pub mod Sight
