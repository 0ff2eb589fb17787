pub mod Fifteen
pub mod Reading
pub mod WholeInput
