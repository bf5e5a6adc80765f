pub mod Endings
pub mod Prompts
pub mod Mails
pub mod Owners
pub mod Lefts
pub mod Desks
pub mod Names
