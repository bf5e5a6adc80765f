pub mod Standings
pub mod Firsts
pub mod Turned
pub mod Ends
pub mod Begins
pub mod PassedOn
