pub mod Lasting
pub mod Moving
pub mod Taking
