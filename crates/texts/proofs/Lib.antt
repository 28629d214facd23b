pub mod Texts
pub mod Examples
pub mod Cells
pub mod Listings
pub mod PlanLines
pub mod Rooms
