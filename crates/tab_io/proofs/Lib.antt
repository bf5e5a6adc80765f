pub mod ForCallers
pub mod Pieces
