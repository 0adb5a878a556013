pub mod Seen
pub mod TrueFormats
