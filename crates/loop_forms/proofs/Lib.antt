pub mod Cut
pub mod Values
pub mod Cuts
pub mod Behind
