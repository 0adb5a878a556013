pub mod BlockLemmas
pub mod LaidLemmas
pub mod LawLemmas
pub mod LayLemmas
pub mod ReadLemmas
pub mod Rho
pub mod WalkLemmas
