use Rattle.std.proofs.Common.{sym}
use Rattle.log_model.specs.Soundness.{is_entry}
use Rattle.history_laws.proofs.Members.{found_none}
use Rattle.store_examples.proofs.taking.is_new.Goals as goal

pub returns-in-None : goal.returns-in-None
returns-in-None g c = let h = c.in-None.ensures in λ _. found_none (is_entry c.args.entry) (g.S.Store.history c.args.store.now).rows (sym c.in-None.ensures)
