pub mod Stepped
pub mod Sums
pub mod Split
pub mod Laws
