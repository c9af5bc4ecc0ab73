pub mod Mixes
pub mod Chains
pub mod Loops
pub mod Stepping
pub mod Counting
pub mod Ends
pub mod Values
pub mod Exits
