pub mod Stage
pub mod Steps
pub mod Woven
pub mod Related
pub mod Frame
pub mod Plain
pub mod Law
