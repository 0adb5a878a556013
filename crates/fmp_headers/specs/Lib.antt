pub mod CapsuleHeader
pub mod FmpHeader
pub mod ImageHeader
