pub mod Grids
pub mod Pages
pub mod Visible
pub mod inner
