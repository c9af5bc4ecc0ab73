pub mod Places
pub mod Transfers
pub mod Laws
