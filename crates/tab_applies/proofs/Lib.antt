pub mod Sees
pub mod Dues
pub mod Dones
pub mod PassedOn
