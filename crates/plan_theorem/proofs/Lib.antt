pub mod Lists
pub mod Blocks
pub mod Counts
pub mod Tests
pub mod Homes
pub mod Steps
pub mod Theorem
