pub mod Reaches
pub mod Needs
pub mod Order
pub mod Plans
pub mod Standing
pub mod Leaving
