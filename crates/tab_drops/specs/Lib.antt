pub mod Dropping
pub mod Turns
pub mod Listing
pub mod Ways
