pub mod Tying
