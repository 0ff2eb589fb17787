pub mod Best
pub mod Choices
pub mod Worked
