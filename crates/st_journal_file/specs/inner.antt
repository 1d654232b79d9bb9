-- Stages of the code and proofs of clauses, which no reader has to believe.
pub mod Finding
pub mod Laws
