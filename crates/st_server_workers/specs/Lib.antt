pub mod Telling
pub mod Working
