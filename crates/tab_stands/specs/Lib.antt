pub mod Offs
pub mod Checked
pub mod Standing
pub mod GoingOn
pub mod Delivering
pub mod Poking
pub mod PassedOn
