pub mod Boxes
pub mod Sums
pub mod Settling
