pub mod Rows
pub mod Stills
