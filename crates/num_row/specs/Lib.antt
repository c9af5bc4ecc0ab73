pub mod Ints
pub mod Divisors
pub mod Decimals
