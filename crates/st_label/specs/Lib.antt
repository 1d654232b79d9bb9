pub mod Tree
pub mod Grammar
pub mod Refusals
pub mod Reading
pub mod Faults
pub mod Normal
pub mod inner
