pub mod Writes
pub mod Words
pub mod Statuses
pub mod Calls
