pub mod Bounded
pub mod Evaluable
pub mod Safe
pub mod Laws
