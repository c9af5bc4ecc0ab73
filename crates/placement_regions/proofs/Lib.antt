pub mod Visited
pub mod Known
pub mod Boxed
pub mod Extents
pub mod Reached
pub mod Theorem
