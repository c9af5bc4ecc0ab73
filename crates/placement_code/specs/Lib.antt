pub mod Beginnings
pub mod Small
pub mod Redirects
pub mod Placed
