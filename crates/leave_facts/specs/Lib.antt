pub mod Leaving
pub mod Moved
