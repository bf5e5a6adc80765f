pub mod Held
pub mod Kept
pub mod Nested
pub mod Places
pub mod Reading
pub mod Replay
pub mod Store
