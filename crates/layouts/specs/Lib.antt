-- A message in twenty bytes; the contracts cite these.
pub mod Parts
pub mod Layout
pub mod Statements
