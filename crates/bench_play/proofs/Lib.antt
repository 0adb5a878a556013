pub mod Alike
pub mod BootEvents
pub mod Counting
pub mod Factory
pub mod OutsideEvents
pub mod RequestEvents
pub mod Running
pub mod StageEvents
