pub mod Requests
pub mod Refusals
pub mod Policy
pub mod Entries
pub mod Periods
pub mod inner
pub use Rattle.st_dir.specs.Directory
