-- Invariants of representations, which no reader has to believe.
pub mod Sums
pub mod Spots
pub mod Marks
pub mod Pages
