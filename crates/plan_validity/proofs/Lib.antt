pub mod Around
pub mod Scopes
pub mod Numbers
pub mod Pass
