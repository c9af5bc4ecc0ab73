pub mod Along
pub mod Derived
pub mod Reaching
pub mod Lists
pub mod Moves
pub mod Begins
pub mod Chosen
pub mod Obeyed
