pub mod Seated
pub mod Growing
pub mod Crossing
pub mod Agreeing
pub mod EqualBytes
pub mod EqualRuns
