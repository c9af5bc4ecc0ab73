pub mod Parts
pub mod Sample
