pub mod Traced
pub mod Covers
pub mod Law
pub mod Told
