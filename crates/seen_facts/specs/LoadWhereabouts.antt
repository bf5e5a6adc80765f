pub mod Whereabouts
