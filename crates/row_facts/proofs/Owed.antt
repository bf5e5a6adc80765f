pub mod Ends
pub mod Hanging
pub mod Standing
pub mod Requests
pub mod Aims
pub mod Rows
pub mod Drops
