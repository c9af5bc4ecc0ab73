pub mod Plans
pub mod Law
