pub mod Checking
pub mod Prompting
pub mod Rows
pub mod Having
