pub mod Fitting
pub mod Valid
