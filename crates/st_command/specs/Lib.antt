pub mod Opening
pub mod Kept
pub mod Running
