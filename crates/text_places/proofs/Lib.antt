mod Lists
mod Uses
mod Statements
mod Sizes
mod Accesses
mod Blocked
mod Firsts
pub mod Readiness
