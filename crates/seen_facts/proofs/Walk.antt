pub mod Placed
pub mod Upwards
pub mod OnWays
pub mod Leaving
pub mod Order
pub mod Aims
pub mod Sleepers
pub mod Turns
