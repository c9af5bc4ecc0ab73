pub mod Walks
pub mod Standing
pub mod Settling
pub mod Listed
pub mod Planned
pub mod Blocked
