pub mod Rings
pub mod Plans
pub mod Outward
