pub mod Discarding
pub mod Evicting
