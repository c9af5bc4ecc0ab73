pub mod Names
pub mod Own
pub mod Even
pub mod Homes
pub mod Mild
pub mod Full
pub mod Small
pub mod Law
