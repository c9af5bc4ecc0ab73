pub mod Writable
pub mod Carried
