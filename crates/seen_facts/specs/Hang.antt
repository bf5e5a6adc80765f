pub mod Members
pub mod Forms
pub mod Hanging
pub mod Changing
pub mod AsPlaces
