-- What this crate's callers read of checks and of loads through it.
pub use Rattle.checking_facts.specs.Prompts.{AreAskedDuly, GoesBeside, NobodyAsked, NoneChecked, PassIf, PromptsFor, noted_by, told_by}
pub use Rattle.load_table.specs.declared.load.Load.{Load}
