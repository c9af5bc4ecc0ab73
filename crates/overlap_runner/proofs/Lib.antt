pub mod Ties
pub mod Outcomes
pub mod Taken
pub mod Loop
pub mod Begun
