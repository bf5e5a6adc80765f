pub mod Whereabouts
pub mod Cores
pub mod Knowns
