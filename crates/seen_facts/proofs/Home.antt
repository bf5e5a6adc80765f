pub mod Again
pub mod Mapped
pub mod Rows
pub mod Below
pub mod Away
pub mod Shown
pub mod Changed
pub mod Left
