pub mod Comes
pub mod Deallocs
