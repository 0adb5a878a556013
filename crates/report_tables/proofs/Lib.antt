pub mod EntryLemmas
pub mod EsrtLemmas
pub mod Growing
pub mod ResultLemmas
pub mod ResultLaws
pub mod TextLemmas
pub mod UnitLemmas
