-- Read in this order: the order of refusals, the three demands (after the first that a refusal is withdrawn, and that a promise leaves no choice).
pub mod Order
pub mod Demand1
pub mod Withdrawn
pub mod Determined
pub mod Demand2
pub mod Demand3
pub mod Plan
