pub mod MortonLemmas
pub mod Blocks
pub mod PeriodLemmas
pub mod KeyLemmas
pub mod OrderLemmas
pub mod PointLemmas
pub mod Digits
