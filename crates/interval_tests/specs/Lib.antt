pub mod Law
pub mod Planned
