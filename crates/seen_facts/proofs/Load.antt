pub mod Leaves
pub mod Docs
pub mod Rows
pub mod Begun
pub mod Orders
pub mod Changes
