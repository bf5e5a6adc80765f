-- What this crate's callers read of others through it.
pub use Rattle.unasked.proofs.Nows.{applied_goes, dropped_goes, dropped_now, refused_goes, refused_now, sent_goes, sent_now, started_goes}
pub use Rattle.unasked_dues.proofs.Paid.{paid_read}
pub use Rattle.unasked_dues.proofs.Read.{read_more, read_own}
pub use Rattle.unasked_dues.proofs.Sole.{debts_own, sole_own}
pub use Rattle.unasked_dues.specs.Checking.{AreNumbered}
pub use Rattle.checking_facts.proofs.Nobody.{lawful_pass, nobody_duly, none_before, none_told, pass_end, plain_nobody}
