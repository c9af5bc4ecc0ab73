pub mod Runs
pub mod Halves
pub mod Held
pub mod Starts
pub mod Statements
pub mod Costs
pub mod Conclusions
pub mod Direct
