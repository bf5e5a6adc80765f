pub mod Prompts
pub mod Asking
pub mod Sparing
