pub mod State
pub mod Reads
pub mod Changes
pub mod Step
pub mod Judging
pub mod Worlds
pub mod inner
pub use Rattle.st_policy.specs.Policy
