-- Invariants and views of a representation, which no reader has to believe: no clause of a public function cites them.
pub mod Sound
pub mod Boards
