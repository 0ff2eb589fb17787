pub mod AnyOrder
pub mod Computed
pub mod HighestValue
pub mod Rearrangements
pub mod Seven
