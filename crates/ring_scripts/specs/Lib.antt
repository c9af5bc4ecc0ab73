pub mod Readings
pub mod Starts
pub mod Texts
pub mod Calm
pub mod Ahead
pub mod Turns
pub mod Outward
pub mod Twins
