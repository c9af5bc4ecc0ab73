pub mod Owned
pub mod Renamed
pub mod Twins
pub mod SplitBounds
pub mod Starts
