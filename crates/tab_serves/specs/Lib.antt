pub mod Serving
pub mod PassedOn
