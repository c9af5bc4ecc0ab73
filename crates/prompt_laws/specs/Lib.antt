pub mod Rooms
pub mod Reaches
pub mod Along
pub mod Costs
pub mod Law
