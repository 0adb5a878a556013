pub mod Entries
pub mod Esrt
pub mod Names
pub mod Results
pub mod Units
