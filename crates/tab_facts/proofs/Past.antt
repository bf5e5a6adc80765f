pub mod Past
pub mod Places
pub mod Ones
pub mod Rows
pub mod Orders
