pub mod Purities
