pub mod Offs
pub mod Settling
pub mod Held
pub mod PassedOn
