pub mod Stays
pub mod Places
pub mod Asked
pub mod Rows
pub mod Orders
pub mod Changes
pub mod Ways
pub mod Below
