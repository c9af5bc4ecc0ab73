pub mod Copying
pub mod Agreement
pub mod Starting
pub mod Loop
pub mod Modules
pub mod Adding
