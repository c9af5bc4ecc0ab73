mod Blocked
mod Accessed
