pub mod Lists
pub mod Again
pub mod Rows
pub mod Orders
pub mod Over
pub mod Quiet
pub mod Runs
pub mod Tells
