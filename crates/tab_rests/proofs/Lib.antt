pub mod Rests
pub mod Ended
pub mod Stepped
pub mod PassedOn
