pub mod Listed
pub mod Same
pub mod Chosen
pub mod OneAnswer
pub mod SomeAnswer
