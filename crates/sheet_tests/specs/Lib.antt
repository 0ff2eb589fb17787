pub mod RateSheets
pub mod Rates
pub mod Computed
