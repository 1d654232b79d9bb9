-- Stages of the code, which no reader has to believe: no clause of a public function cites them.
pub mod Writes
pub mod Taking
pub mod NoOther
pub mod Putting
