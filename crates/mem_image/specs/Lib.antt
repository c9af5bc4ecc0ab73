pub mod Faults
pub mod Forms
pub mod Growing
pub mod Images
pub mod Laws
pub mod Lines
