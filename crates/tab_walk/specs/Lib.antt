pub mod Moving
pub mod Cutting
pub mod PassedOn
