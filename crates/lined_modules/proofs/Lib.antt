pub mod Texts
pub mod Trees
pub mod Ways
pub mod Plans
pub mod Law
