pub mod Lines
pub mod Parting
