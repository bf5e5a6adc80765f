pub mod Loading
pub mod Telling
pub mod Giving
pub mod Asking
