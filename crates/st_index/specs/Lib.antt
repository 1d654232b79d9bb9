pub mod Texts
pub mod Notes
pub mod Order
pub mod KeyPoints
pub mod RowViews
pub mod inner
