pub mod Giving
pub mod NamedLaws
pub mod Taking
