use Rattle.std.proofs.Common.{sym, ◌∙◌}
use Rattle.apply_plan.proofs.Targets.{target_read}
use Rattle.apply_plan.proofs.reach.target_row.Goals as goal

pub returns-in-Some : goal.returns-in-Some
returns-in-Some g c = c.row.ensures ∙ target_read (g.S.Store.history c.args.store.now) (g.met.S.Store.sound c.args.store.now) c.args.nav c.args.step.0 c.in-Some.entry (sym c.in-Some.ensures)
