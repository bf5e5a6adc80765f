pub mod Runners
pub mod Picking
pub mod Telling
pub mod Making
