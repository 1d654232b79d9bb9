pub mod Drafts
pub mod Rolls
pub mod inner
