-- Stages of the code, and what only a law says: no reader has to believe them.
pub mod Adds
pub mod Order
