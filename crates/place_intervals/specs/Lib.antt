pub mod TermRanges
pub mod Places
