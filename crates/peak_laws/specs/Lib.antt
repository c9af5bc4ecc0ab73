pub mod Peak
pub mod Law
