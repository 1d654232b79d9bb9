-- Invariants of representations, machines and stages of the code: no reader has to believe what stands here.
pub mod Fronts
pub mod Remembered
pub mod Order
