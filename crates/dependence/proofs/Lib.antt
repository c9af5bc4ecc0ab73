pub mod Apart
pub mod Spreads
pub mod StretchRows
pub mod Appending
pub mod ClashSteps
