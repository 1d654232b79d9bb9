pub mod Render
pub mod Items
pub mod Streams
pub mod Connection
pub mod inner
