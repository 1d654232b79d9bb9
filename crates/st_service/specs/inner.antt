-- Lemmas of the contracts, which no reader has to believe.
pub mod Calls
pub mod Represented
