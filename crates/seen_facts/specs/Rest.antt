pub mod Resting
pub mod Between
pub mod Owning
