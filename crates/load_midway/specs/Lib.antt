pub mod Owing
pub mod Midway
