pub mod Times
pub mod Words
pub mod Passes
pub mod Calls
