pub mod Structures
pub mod Told
pub mod Cursors
pub mod Feeds
