pub mod Inside
pub mod Regioned
pub mod Widened
pub mod Wholes
pub mod Froms
pub mod Reaches
pub mod Lengths
mod Ranged
pub mod ReadyUses
mod Gathering
mod AtLoops
mod Multiples
