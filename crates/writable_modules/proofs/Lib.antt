pub mod Expressions
pub mod Kept
pub mod Types
pub mod Plain
pub mod Walk
pub mod Given
