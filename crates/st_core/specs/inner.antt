-- What no reader has to believe: invariants of representations.
pub mod Tables
pub mod Shelves
