pub mod Runs
pub mod Items
pub mod Mades
pub mod Moving
pub mod Courses
