pub mod Tied
pub mod First
