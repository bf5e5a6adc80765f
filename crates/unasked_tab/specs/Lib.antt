pub mod Passing
pub mod Steady
