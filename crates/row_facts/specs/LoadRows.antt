pub mod Dropping
pub mod Beginning
pub mod LoadMaking
pub mod Loaded
