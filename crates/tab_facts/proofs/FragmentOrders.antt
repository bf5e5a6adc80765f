pub mod Counts
pub mod Fates
pub mod Ends
pub mod Rows
pub mod Works
