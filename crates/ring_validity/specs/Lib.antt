pub mod Wells
pub mod Bodies
pub mod Openings
pub mod Law
pub mod BodyLaw
