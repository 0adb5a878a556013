pub mod BlockLemmas
pub mod FactoryLemmas
pub mod FolderLemmas
pub mod RegionLemmas
pub mod RoomLemmas
pub mod SeenLemmas
