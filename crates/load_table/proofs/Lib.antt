pub mod Keyed
pub mod Others
