pub mod Modules
pub mod Worked
