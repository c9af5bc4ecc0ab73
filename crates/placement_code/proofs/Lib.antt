pub mod Steps
pub mod Products
pub mod Lessened
pub mod Looped
