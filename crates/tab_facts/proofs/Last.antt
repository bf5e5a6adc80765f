pub mod Parts
pub mod Moved
pub mod Orders
pub mod Applied
pub mod Rows
