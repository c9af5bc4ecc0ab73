pub mod Numbers
pub mod Memories
