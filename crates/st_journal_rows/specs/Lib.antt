pub mod Table
pub mod Openings
pub mod Ready
pub mod OpenedTable
pub mod inner
