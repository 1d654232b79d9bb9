pub mod Status
pub mod Common
pub mod RunArguments
pub mod ServedArguments
pub mod Help
pub mod inner
