pub mod Ends
pub mod FirstKeys
pub mod Jumps
pub mod Runs
pub mod Starts
