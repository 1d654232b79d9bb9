pub mod Widening
pub mod Joining
pub mod Chained
pub mod Idle
