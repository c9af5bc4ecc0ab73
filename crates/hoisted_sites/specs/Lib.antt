pub mod Counting
pub mod Sites
pub mod Hoisting
