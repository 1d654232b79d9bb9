pub mod Replying
pub mod Histories
pub mod Equal
pub mod Connections
pub mod Together
pub mod Unheard
