pub mod Crossing
pub mod Deciding
