pub mod Numbers
pub mod Law
