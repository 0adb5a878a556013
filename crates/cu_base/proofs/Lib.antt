pub mod Fields
pub mod GuidLemmas
pub mod Lists
pub mod Rows
pub mod Sixteen
pub mod TimeLemmas
