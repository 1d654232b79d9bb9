pub use Rattle.st_journal_rows.specs.Table
pub mod Files
pub mod Opening
pub mod inner
