pub mod Braces
pub mod Digits
pub mod Lookup
