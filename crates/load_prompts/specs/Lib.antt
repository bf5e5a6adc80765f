pub mod Prompting
