pub mod Saturation
pub mod Tables
pub mod Works
pub mod Weights
pub mod ValidWork
