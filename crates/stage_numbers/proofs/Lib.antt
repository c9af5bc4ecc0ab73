mod Symbols
mod Ready
mod Given
mod Placed
pub mod Parameters
pub mod Written
