-- Invariants of representations, machines and stages of the code: no reader has to believe what stands here.
pub mod Coordinates
pub mod Edges
pub mod KeyTest
pub mod Corners
pub mod Parts
pub mod Bins
pub mod Bounds
