-- Stages of the code, which no reader has to believe.
pub mod Stages
