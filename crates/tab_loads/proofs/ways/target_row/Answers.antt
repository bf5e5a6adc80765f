use Rattle.apply_plan.proofs.Targets.{target_read}
use Rattle.std.proofs.Common.{sym, ◌∙◌}
use Rattle.step_index.specs.Held.{history_held}
use Rattle.step_index.specs.contracts.step_index.StepIndexStore.TheImpl.Laws.{sound-law}
use Rattle.tab_loads.proofs.ways.target_row.Goals as goal

pub returns-in-Some : goal.returns-in-Some
returns-in-Some c =
    c.row.ensures ∙ target_read (history_held c.args.store.now) (sound-law c.args.store.now) c.args.nav c.args.step.0 c.in-Some.entry (sym c.in-Some.ensures)
