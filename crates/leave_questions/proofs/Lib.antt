pub mod Walks
pub mod Docs
pub mod Lives
pub mod Rows
pub mod Due
pub mod Slots
