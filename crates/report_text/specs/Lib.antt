pub mod Reports
pub mod Summary
pub mod Endings
