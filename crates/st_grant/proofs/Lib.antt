pub mod Sets
mod Order
