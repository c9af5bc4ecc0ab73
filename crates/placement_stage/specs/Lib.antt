pub mod Places
pub mod Stages
pub mod Law
pub mod All
