pub mod Conditions
pub mod Pieces
