-- Invariants of representations, machines and stages of the code: no reader has to believe what stands here.
pub mod Machine
pub mod Gathered
pub mod Gives
pub mod Terms
pub mod Truth
pub mod Views
