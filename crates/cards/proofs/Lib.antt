pub mod CodeBack
pub mod Different
pub mod Front
pub mod InFront
pub mod Written
