pub mod Found
pub mod Stored
pub mod Carries
pub mod Theorem
