pub mod Terms
pub mod SmallNumbers
pub mod ZeroPlaces
pub mod OuterNames
pub mod Placeable
pub mod Offsets
pub mod Shapes
