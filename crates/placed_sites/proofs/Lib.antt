pub mod Standing
pub mod Candidates
