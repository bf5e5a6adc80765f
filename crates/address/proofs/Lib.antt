pub mod Blank
pub mod Bytes
pub mod ForCallers
pub mod Fragments
pub mod Urls
pub mod Written
pub mod Roots
pub mod Parts
