pub mod Lawful
pub mod Making
pub mod Discarding
pub mod Taking
