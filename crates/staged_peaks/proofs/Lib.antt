pub mod Weighted
pub mod Theorem
pub mod Lists
pub mod Order
pub mod Ways
pub mod Living
pub mod Steps
