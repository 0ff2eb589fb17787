pub mod Codes
pub mod Letters
pub mod Ranks
pub mod Several
pub mod Suits
