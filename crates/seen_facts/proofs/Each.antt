pub mod Eaches
pub mod Runs
pub mod Died
pub mod Courses
pub mod Earlier
