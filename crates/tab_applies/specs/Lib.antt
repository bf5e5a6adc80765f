pub mod Applying
pub mod PassedOn
