pub mod Keys
pub mod Places
pub mod Stores
pub mod Answers
pub mod Writes
