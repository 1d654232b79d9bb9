-- Invariants of representations and stages of the code, which no reader has to believe.
pub mod Once
pub mod Joined
pub mod Found
pub mod Places
