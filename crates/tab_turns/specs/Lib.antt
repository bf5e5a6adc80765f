pub mod Turning
pub mod Ending
pub mod Beginning
pub mod PassedOn
