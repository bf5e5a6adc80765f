pub mod Each
pub mod Ends
pub mod Unarrived
