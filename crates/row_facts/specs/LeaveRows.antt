pub mod Leaving
pub mod Freezing
pub mod Evicting
pub mod Fragments
pub mod MayLeave
