pub mod CutLaws
pub mod DigitLaws
pub mod WordLaws
pub mod FieldLaws
pub mod TableLaws
pub mod RowLaws
pub mod LogLaws
