pub mod Clients
pub mod Telling
