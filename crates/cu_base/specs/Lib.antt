pub mod Bytes
pub mod Causes
pub mod Fields
pub mod Guids
pub mod Kept
pub mod Refusals
pub mod Times
