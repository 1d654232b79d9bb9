pub mod Sorted
pub mod inner
