pub mod Stays
pub mod Rows
pub mod Orders
pub mod Changes
pub mod States
