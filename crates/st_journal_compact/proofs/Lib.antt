pub mod LastOnes
pub mod RowChanges
pub mod Shorter
pub mod Joining
pub mod Taking
pub mod Seeing
