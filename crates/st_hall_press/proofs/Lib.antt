pub mod Fronts
pub mod Adding
pub mod Following
pub mod Unheard
