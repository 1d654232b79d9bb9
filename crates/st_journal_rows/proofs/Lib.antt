mod ViewLemmas
mod RowLemmas
mod Causes
pub mod CommitLemmas
mod Reading
mod LastRows
mod Others
pub mod Backs
pub mod RewriteLemmas
