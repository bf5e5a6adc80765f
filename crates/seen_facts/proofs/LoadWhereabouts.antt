pub mod Trips
pub mod Counts
pub mod Rows
pub mod Begun
pub mod Ended
pub mod Answered
pub mod Others
pub mod Finding
