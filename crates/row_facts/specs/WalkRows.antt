pub mod Since
pub mod Later
