pub mod Replays
pub mod Faults
pub mod Leaving
pub mod Owner
pub mod inner
