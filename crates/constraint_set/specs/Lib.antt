pub mod Points
pub mod Tidy
pub mod Table
pub mod Elimination
pub mod Lists
pub mod Reach
pub mod Projection
