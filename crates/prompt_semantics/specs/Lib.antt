pub mod Device
pub mod Prompt
