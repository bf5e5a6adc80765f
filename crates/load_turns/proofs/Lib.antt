pub mod Going
pub mod Nexts
