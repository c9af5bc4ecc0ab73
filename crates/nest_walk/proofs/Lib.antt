pub mod Envs
pub mod Stands
pub mod Frames
pub mod Steps
pub mod RoomLaws
