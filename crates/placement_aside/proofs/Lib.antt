pub mod Starts
pub mod Released
pub mod Apart
