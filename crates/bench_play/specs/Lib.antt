pub mod Counted
pub mod FirstBench
pub mod Happens
pub mod Inputs
pub mod Played
