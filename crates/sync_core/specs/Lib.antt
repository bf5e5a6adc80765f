pub mod Changes
pub mod Judging
