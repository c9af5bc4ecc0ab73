pub mod Memory
pub mod Woven
pub mod Run
pub mod Frame
pub mod Plain
