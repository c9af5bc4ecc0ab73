mod Blocked
mod Sized
mod Pieces
