pub mod LawfulLaws
pub mod Cut
pub mod Makes
pub mod Discards
pub mod Takes
pub mod Turns
