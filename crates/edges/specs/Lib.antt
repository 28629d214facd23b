-- The starred edges.
pub mod Edges
