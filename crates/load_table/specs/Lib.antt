pub mod Loads
pub mod Entries
