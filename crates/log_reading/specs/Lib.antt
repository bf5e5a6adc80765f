pub mod Chain
pub mod Readable
pub mod Outcomes
pub mod Words
pub mod Fields
pub mod Tables
pub mod Rows
pub mod Gives
