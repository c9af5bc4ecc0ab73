pub mod Modules
pub mod Law
