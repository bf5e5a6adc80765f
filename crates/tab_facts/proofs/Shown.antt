pub mod Places
pub mod Leaves
pub mod Rows
pub mod Opened
pub mod Sent
pub mod Orders
pub mod Making
