pub mod Passing
pub mod Telling
pub mod Causes
pub mod Leaving
pub mod Sleepers
pub mod PassedOn
