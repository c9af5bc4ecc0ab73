pub mod Wrapped
pub mod Operation
pub mod Cast
