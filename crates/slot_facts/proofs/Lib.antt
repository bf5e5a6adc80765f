pub mod Opened
pub mod Changes
pub mod Told
pub mod Rows
pub mod Finished
pub mod Delivered
