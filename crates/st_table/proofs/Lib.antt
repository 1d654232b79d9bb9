mod Naming
mod Replacing
mod Resorting
mod Rebuilding
pub mod Reading
pub mod Storing
pub mod Getting
mod Finding
mod Numbers
mod Standing
mod Sorting
mod Ascending
mod Tying
mod Keys
pub mod Copying
