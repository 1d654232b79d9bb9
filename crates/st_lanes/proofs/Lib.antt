pub mod LaneLemmas
pub mod Places
