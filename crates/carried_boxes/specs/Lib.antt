pub mod Backward
pub mod Law
pub mod Widening
