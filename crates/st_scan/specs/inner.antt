-- Invariants of representations and stages of the code, which no reader has to believe.
pub mod Rows
pub mod Steps
pub mod Starts
pub mod Walks
pub mod Regions
pub mod Pages
