pub mod Short
mod Turns
