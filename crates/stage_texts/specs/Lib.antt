pub mod Order
pub mod Shape
pub mod Law
pub mod Distinct
