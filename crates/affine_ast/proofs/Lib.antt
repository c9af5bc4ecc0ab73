pub mod Nests
pub mod Names
pub mod Spellings
pub mod PlainLaws
pub mod PlainTolds
pub mod PlainFaults
pub mod Parts
