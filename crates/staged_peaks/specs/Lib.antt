pub mod Bytes
pub mod Law
pub mod Living
