pub mod Taking
pub mod PassedOn
