pub mod Closed
pub mod Debts
pub mod Cut
pub mod Ready
