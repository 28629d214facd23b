-- Read in this order: the laws of an order of refusals, each call's order, the demands.
pub mod Orders
pub mod FrameOrders
pub mod PictureOrders
pub mod QuestionOrders
pub mod BenchOrders
pub mod CallOrders
pub mod ReplayOrders
pub mod Demand1
pub mod Withdrawn
pub mod Determined
pub mod Demand2
pub mod Demand3
pub mod Plan
pub mod Codes
