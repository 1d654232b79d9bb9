-- Invariants of representations, machines and stages of the code: no reader has to believe what stands here.
pub mod Cells
pub mod First
pub mod Jump
pub mod Runs
