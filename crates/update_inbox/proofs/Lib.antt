pub mod BatchLemmas
pub mod FolderLemmas
pub mod RequestLaws
pub mod StageLemmas
pub mod WaitingLemmas
