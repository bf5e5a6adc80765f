pub mod Asking
pub mod Ones
pub mod Noting
pub mod Waiting
pub mod Standing
pub mod Prompting
pub mod Known
