pub mod Loading
pub mod Applying
pub mod Tied
pub mod Refusing
pub mod Logged
