pub mod Fits
pub mod Law
pub mod Untested
