-- An invariant of a representation, which no reader has to believe: no clause of a public function cites it.
pub mod Sound
