pub mod Answers
pub mod Batches
pub mod Folders
pub mod Staging
