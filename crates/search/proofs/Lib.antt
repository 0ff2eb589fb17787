pub mod Leads
pub mod Reduced
