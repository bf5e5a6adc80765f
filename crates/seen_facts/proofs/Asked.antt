pub mod Plainly
pub mod Passed
pub mod Stays
pub mod Rows
pub mod Begun
pub mod Orders
pub mod Running
