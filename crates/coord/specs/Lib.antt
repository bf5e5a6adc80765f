pub mod Standing
pub mod Delivering
pub mod Evicting
pub mod Keeping
pub mod PassedOn
