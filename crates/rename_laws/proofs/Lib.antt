pub mod Values
pub mod Mute
pub mod Actions
pub mod Owns
pub mod Steps
pub mod Runs
pub mod Rules
pub mod Told
