pub mod Texts
pub mod Placements
pub mod Law
