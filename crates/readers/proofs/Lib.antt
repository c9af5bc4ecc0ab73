pub mod Parts
pub mod Repeated
pub mod Lookahead
pub mod Laws
pub mod Whole
pub mod Limits
pub mod Unused
pub mod Texts
