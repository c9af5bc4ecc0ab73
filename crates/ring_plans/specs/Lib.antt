pub mod Spots
pub mod Rings
pub mod Plan
pub mod Law
