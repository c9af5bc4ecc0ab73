pub mod Places
pub mod Copies
pub mod Ledgers
pub mod Halves
pub mod Orders
