-- Stages of the code, and what only a law says: no reader has to believe them.
pub mod Values
pub mod Windows
pub mod Growth
pub mod Messages
pub mod Takes
