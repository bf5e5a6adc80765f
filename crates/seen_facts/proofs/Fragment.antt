pub mod Joined
pub mod Makes
pub mod Alike
pub mod Delivered
pub mod AtHand
pub mod Knowns
pub mod Orders
