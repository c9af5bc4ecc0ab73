pub mod Example
pub mod Outward
pub mod Mixed
pub mod Numbers
