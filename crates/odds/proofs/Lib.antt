pub mod Payments
pub mod Rounding
pub mod SameOdds
