pub mod Layers
pub mod Redirections
pub mod Parting
pub mod Staging
pub mod Valid
pub mod Alls
