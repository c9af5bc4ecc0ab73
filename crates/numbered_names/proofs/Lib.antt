pub mod Owned
pub mod Counts
pub mod Apart
pub mod Arguments
pub mod Laws
