pub mod Steps
pub mod Views
pub mod inner
