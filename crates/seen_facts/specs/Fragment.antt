pub mod Fragments
pub mod Waiting
