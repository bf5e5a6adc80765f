pub mod Endings
pub mod Waits
pub mod Releases
pub mod PassedOn
