pub mod Ring
pub mod Order
pub mod Floors
pub mod Narrow
pub mod Gcds
pub mod DecimalTexts
