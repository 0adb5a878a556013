pub mod Found
pub mod Entries
pub mod NamesMade
pub mod RefusalLemmas
pub mod StoreLemmas
pub mod WriteLemmas
