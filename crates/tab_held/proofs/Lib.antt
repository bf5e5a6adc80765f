pub mod Over
pub mod Holds
pub mod Cut
pub mod Ends
pub mod Goes
