-- Invariants of representations, machines and stages of the code, and what only a law says: no reader has to believe what stands here.
pub use Rattle.st_sorted.specs.inner.Places
pub mod Shown
