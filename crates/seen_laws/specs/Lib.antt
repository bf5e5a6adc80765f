pub mod Unasked
pub mod Blocks
pub mod Owing
pub mod InEvent
pub mod Sending
pub mod Applying
pub mod Acting
