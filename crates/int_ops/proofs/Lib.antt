pub mod Wraps
pub mod Quotients
pub mod Results
