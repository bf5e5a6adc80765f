pub mod DeskChanges
pub mod ViewChanges
