pub mod Same
pub mod Packed
pub mod Sorted
pub mod Resorting
