pub mod Setting
pub mod Tailed
