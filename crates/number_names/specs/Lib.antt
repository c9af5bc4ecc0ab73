pub mod Underscores
pub mod Renaming
