pub mod Held
pub mod Layout
pub mod Refusals
pub mod Spending
pub mod Writers
pub mod Writing
