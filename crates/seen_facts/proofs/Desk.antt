pub mod Again
pub mod Lists
pub mod Stays
pub mod Rows
pub mod Orders
