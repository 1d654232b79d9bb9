pub mod Batches
pub mod Crossing
pub mod Grouping
mod Backs
