pub mod Goes
pub mod Asked
