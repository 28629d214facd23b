-- Read in this order: Standing and Asked (what a reader must believe), then the statements, Names, Demand3, Depth, Sentence, Effects, Speaks, InMemory and Cases. Machine and Refinement are
-- steps of the proof of Demand3, which no reader has to believe.
pub mod Standing
pub mod Asked
pub mod Names
pub mod Machine
pub mod Refinement
pub mod Demand3
pub mod Depth
pub mod Sentence
pub mod Speaks
pub mod InMemory
pub mod Effects
pub mod Cases
