pub mod Fronts
pub mod Merge
pub mod Places
pub mod Search
pub mod Sized
pub mod Recall
