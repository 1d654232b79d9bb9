pub mod Shelving
pub mod Headings
pub mod Pages
pub mod RowLists
pub mod Steps
pub mod Progress
pub mod Allowed
pub mod Sieves
pub mod Truth
pub mod Alike
pub mod Kept
pub mod Judgements
mod Worked
mod WorkedRows
mod WorkedDirectory
mod WorkedNamespaces
pub mod WorkedTokens
mod WorkedWorlds
