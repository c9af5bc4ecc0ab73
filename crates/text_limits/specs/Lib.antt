pub mod Sums
pub mod Capped
pub mod Adding
pub mod Lessening
pub mod Telling
pub mod Leaving
