pub mod Blocks
pub mod Folders
pub mod Parts
pub mod Quiet
pub mod Regions
pub mod Rooms
pub mod State
pub mod Tables
