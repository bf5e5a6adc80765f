pub mod Desks
pub mod Again
pub mod Rows
pub mod Delivered
pub mod Applied
