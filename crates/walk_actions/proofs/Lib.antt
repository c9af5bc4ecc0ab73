pub mod Tables
pub mod Values
pub mod Cells
pub mod Elements
pub mod Lasts
pub mod Ends
