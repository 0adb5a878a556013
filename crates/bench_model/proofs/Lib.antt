pub mod DeviceLemmas
pub mod ImageLemmas
pub mod MemoryLemmas
pub mod OverlayLemmas
