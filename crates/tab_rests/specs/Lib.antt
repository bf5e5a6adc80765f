pub mod Resting
pub mod PassedOn
