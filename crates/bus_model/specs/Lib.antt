pub mod Places
pub mod Copies
pub mod Ledger
pub mod Engines
