pub mod Listing
pub mod Places
pub mod Prefixes
pub mod Renamings
pub mod Numbered
