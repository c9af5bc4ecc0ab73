pub mod Carrying
mod Stepping
mod Loops
