pub mod Tests
pub mod Steps
pub mod Fewest
pub mod Starts
pub mod Judging
pub mod Judged
pub mod Cases
