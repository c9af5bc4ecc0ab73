pub mod Readers
pub mod Languages
pub mod Places
pub mod Exactness
pub mod Limits
