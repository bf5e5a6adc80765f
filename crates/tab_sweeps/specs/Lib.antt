pub mod Sweeping
pub mod Turns
pub mod Unneeded
