pub mod Asked
pub mod Documents
pub mod Stays
pub mod Rows
pub mod Orders
pub mod Applying
pub mod Changes
pub mod Adding
