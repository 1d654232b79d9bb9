-- Invariants of representations, machines and stages of the code: no reader has to believe what stands here.
pub mod Computing
pub mod Levels
pub mod Covers
