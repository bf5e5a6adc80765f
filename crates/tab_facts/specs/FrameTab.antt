pub mod Alive
pub mod Numbers
pub mod Steady
pub mod Asking
pub mod Desks
pub mod Whole
pub mod MadeHere
