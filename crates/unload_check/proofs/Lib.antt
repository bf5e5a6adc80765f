pub mod Tables
pub mod Stays
