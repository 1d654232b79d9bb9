-- Representations and their invariants, which no reader has to believe.
pub mod Entries
pub mod Noted
pub mod Views
pub mod Changes
pub mod Lists
pub mod KeyPoints
pub mod Storages
pub mod Counting
pub mod Fields
pub mod ListValue
pub mod Index
