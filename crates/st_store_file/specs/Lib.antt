pub mod Copying
pub mod Shortened
pub mod Asking
pub mod inner
