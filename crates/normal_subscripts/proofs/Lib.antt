pub mod Orders
pub mod Renumbering
pub mod Results
