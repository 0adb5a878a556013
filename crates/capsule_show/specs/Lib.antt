pub mod Appended
pub mod Images
pub mod Lines
pub mod Names
pub mod ShowText
