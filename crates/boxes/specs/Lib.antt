pub mod Every
pub mod Boxes
pub mod Laws
