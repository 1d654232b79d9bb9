pub mod Numbers
pub mod Refusing
pub mod Wanting
mod WorkedRun
mod WorkedServed
mod BindAddresses
