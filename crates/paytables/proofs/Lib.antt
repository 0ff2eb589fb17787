pub mod PaidAt
pub mod Rising
