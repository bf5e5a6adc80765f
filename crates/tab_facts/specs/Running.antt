pub mod Running
pub mod Fitting
pub mod Telling
