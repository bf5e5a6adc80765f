pub mod DigitLaws
pub mod ByteLaws
pub mod LongestLaws
