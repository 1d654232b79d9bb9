pub mod Refusals
pub mod Replies
pub mod inner
