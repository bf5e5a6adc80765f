pub mod Moving
pub mod Showing
pub mod Making
pub mod Leaving
pub mod PassedOn
