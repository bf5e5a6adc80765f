pub mod Bare
pub mod Causes
pub mod Debts
pub mod Blamed
pub mod Ready
pub mod Goes
pub mod Cut
