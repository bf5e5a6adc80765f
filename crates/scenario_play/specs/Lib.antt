pub mod Lines
pub mod PassedOn
pub mod Moves
pub mod Courses
