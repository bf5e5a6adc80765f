pub mod Tells
pub mod Strays
pub mod Notes
pub mod Needs
pub mod Comes
pub mod Readies
pub mod Calls
