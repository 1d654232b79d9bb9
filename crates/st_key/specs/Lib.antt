pub mod Key
pub mod Morton
pub mod Order
pub mod Period
pub mod inner
