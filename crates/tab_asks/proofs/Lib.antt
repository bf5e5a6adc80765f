pub mod Orders
pub mod Begun
