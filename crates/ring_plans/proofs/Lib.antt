pub mod Within
pub mod Stay
pub mod Apart
pub mod Ends
