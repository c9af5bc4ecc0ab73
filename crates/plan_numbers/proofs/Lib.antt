pub mod Folds
pub mod Plans
pub mod Copies
pub mod Rows
pub mod Valid
