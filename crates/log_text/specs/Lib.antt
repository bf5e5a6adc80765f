pub mod Spellings
pub mod Lines
pub mod Room
pub mod Counting
