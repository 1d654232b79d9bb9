-- What no reader has to believe: invariants of representations, and the rule of the history.
pub mod History
pub mod Editions
