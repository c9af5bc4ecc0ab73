pub mod Calls
pub mod Commands
pub mod Endings
pub mod Headlines
pub mod Orders
pub mod Originals
pub mod Refusals
