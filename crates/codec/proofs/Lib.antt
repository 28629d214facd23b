pub mod Shapes
pub mod Lawful
pub mod Accepted
pub mod RoundTrip
pub mod Everything
