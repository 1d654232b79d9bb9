pub mod Seats
pub mod Posts
pub mod Standing
pub mod Sights
pub mod inner
