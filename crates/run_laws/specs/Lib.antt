pub mod Along
pub mod CanRun
pub mod FitsTypes
pub mod StaysFitting
pub mod StaysWithin
pub mod BindsOnce
