pub mod Permissions
pub mod Grants
pub mod Order
pub mod inner
pub use Rattle.st_sorted.specs.Sorted
pub use Rattle.st_text.specs.Texts
pub use Rattle.st_text.specs.Names
