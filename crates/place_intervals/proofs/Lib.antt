pub mod Outsides
pub mod PlaceRanged
pub mod FormRanges
pub mod FitLoops
