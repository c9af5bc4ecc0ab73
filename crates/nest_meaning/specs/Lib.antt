pub mod Held
pub mod Takes
