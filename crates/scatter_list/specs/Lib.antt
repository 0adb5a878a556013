pub mod Coalesced
pub mod Descriptors
pub mod Going
pub mod Laid
pub mod Reads
pub mod Walk
