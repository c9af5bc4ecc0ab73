pub mod Saturated
pub mod Table
pub mod Workable
pub mod Steps
