pub mod Sites
pub mod Limits
pub mod Plan
pub mod Law
