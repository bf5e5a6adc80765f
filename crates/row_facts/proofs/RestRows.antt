pub mod Again
pub mod Shown
pub mod Rows
pub mod Lefts
pub mod Orders
