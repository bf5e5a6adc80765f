pub mod Untold
pub mod Tab
pub mod Beside
pub mod FirstWaiting
