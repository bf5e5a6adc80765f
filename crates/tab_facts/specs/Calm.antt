pub mod Calm
pub mod Loads
