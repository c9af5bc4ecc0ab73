pub mod Registered
pub mod Settled
pub mod Effects
