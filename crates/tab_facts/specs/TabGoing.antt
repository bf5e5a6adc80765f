pub mod Going
pub mod PassedOn
