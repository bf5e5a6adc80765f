pub mod OnItsWay
pub mod Leading
pub mod Reaching
pub mod Epochs
pub mod Flowing
pub mod Apart
