pub mod Tags
pub mod Ledgers
pub mod Engines
pub mod Compute
pub mod Shown
pub mod Opens
