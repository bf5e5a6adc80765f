pub mod StepMoves
pub mod Spelled
pub mod LeadLaws
pub mod StepPlays
