pub mod Said
pub mod Smalls
pub mod Few
pub mod Placing
pub mod Staging
