pub mod Replaying
pub mod Noting
pub mod Syncing
pub mod Lives
pub mod Rejudging
