pub mod Plans
pub mod Sited
