pub mod Halves
pub mod Parts
pub mod Tied
pub mod Reaches
