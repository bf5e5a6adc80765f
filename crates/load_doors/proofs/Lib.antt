pub mod Made
pub mod Dropped
pub mod FragmentOrders
pub mod Begun
pub mod Applied
pub mod Refused
pub mod Starts
