-- Invariants of representations and stages of the code, which no reader has to believe.
pub mod Kids
pub mod Tree
pub mod Growing
pub mod Shrinking
pub mod Evening
pub mod Splits
pub mod Trading
pub mod Falls
pub mod Nodes
pub mod Firsts
pub mod Ranges
pub mod Trees
