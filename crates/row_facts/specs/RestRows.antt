pub mod Moving
pub mod Left
