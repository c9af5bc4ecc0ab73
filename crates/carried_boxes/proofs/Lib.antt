pub mod Lists
pub mod Shapes
pub mod Widened
pub mod Examples
