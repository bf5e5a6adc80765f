pub mod Desks
pub mod Views
