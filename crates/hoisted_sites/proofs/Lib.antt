mod Accessing
mod Counts
mod Counted
mod Arguments
mod Stands
mod Rounds
