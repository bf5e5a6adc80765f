pub mod Accepts
pub mod Drops
pub mod Begins
pub mod Earlier
pub mod LoadMakes
pub mod Loads
