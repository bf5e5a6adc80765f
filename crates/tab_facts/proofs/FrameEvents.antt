pub mod Composed
pub mod Leading
pub mod Processes
