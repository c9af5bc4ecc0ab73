pub mod Nesting
pub mod Lines
pub mod Comments
pub mod Writable
