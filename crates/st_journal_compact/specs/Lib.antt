pub mod Shortening
pub mod Judging
pub mod Watching
pub mod inner
