pub mod Applying
pub mod Keeping
pub mod Found
pub mod inner
