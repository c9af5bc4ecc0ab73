mod Covering
pub mod Tracing
mod Turning
pub mod Covered
mod Tables
mod Smalls
mod Joined
mod Listed
mod Passing
mod Uneven
