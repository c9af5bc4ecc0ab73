pub mod Written
pub mod Law
pub mod Total
