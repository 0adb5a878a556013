pub mod Last
pub mod Numbers
pub mod Progress
pub mod Records
pub mod Variables
pub mod Edits
pub mod Holds
pub mod Stands
