pub mod Navigations
