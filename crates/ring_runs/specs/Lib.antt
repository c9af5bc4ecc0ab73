pub mod Places
pub mod Ring
pub mod Facts
pub mod Lates
pub mod Template
pub mod Law
