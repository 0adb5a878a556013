pub mod Fronts
pub mod Growing
pub mod OneText
pub mod ReadBytes
