pub mod Corner
pub mod Part
pub mod Query
pub mod ZBox
pub mod inner
