pub mod Entering
pub mod Begins
pub mod Works
pub mod Silent
pub mod Ready
pub mod Known
pub mod Calls
