pub mod Keys
pub mod Looked
pub mod Intervals
