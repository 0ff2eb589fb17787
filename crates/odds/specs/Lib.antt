pub mod Figures
pub mod Fractions
pub mod LowerLaws
pub mod Payment
