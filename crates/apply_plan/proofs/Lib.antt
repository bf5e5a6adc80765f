pub mod Targets
pub mod Ways
pub mod Walks
pub mod Plans
