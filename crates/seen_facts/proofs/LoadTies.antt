pub mod Phases
pub mod Leaves
pub mod Begins
pub mod Ends
pub mod Makes
pub mod Reported
pub mod Waits
pub mod Rows
