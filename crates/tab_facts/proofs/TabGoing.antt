pub mod Counts
pub mod HeldUp
pub mod Epochs
pub mod Steps
pub mod Rows
pub mod Changes
pub mod PassedOn
