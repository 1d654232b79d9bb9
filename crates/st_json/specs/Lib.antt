pub mod Fields
pub mod Needs
pub mod Rules
pub mod Bodies
pub mod inner
