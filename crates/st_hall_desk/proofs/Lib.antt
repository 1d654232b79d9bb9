pub mod Worlds
pub mod Crossing
