pub mod Ways
pub mod Keeps
pub mod Cleared
pub mod Changes
