pub mod Lists
pub mod Makes
pub mod RisingLaws
pub mod Sheets
