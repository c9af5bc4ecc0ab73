pub mod Rooms
pub mod Held
pub mod Follow
pub mod Runs
pub mod Preparation
