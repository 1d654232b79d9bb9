pub mod Attending
pub mod Keeping
pub mod Running
pub mod Serving
pub mod inner
