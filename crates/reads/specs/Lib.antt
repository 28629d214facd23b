-- Read in this order: Reads (what a right plan is), Plan (the plan of a row), Judging (the test of a proposed plan), Statements (what is shown of them), Cases.
pub mod Reads
pub mod Plan
pub mod Judging
pub mod Statements
pub mod Cases
