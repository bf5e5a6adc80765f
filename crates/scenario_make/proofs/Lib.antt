pub mod Addresses
pub mod MadeLines
pub mod MadeTurns
pub mod Spelling
