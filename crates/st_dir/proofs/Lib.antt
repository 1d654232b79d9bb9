pub use Rattle.st_sorted.proofs.Sorted
pub mod Keys
mod First
mod Sets
mod Laws
mod Listed
mod Setting
