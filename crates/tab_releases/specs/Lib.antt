pub mod Releasing
pub mod PassedOn
