pub mod Shapes
pub mod Keeping
pub mod Owned
pub mod Theorem
