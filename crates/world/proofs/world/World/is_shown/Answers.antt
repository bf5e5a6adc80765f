use Rattle.std.proofs.Common.{◌≡◌, false, subst, true}
use Rattle.log_model.specs.History.{has_row}
use Rattle.log_model.specs.Logs.{history_of}
use Rattle.log_model.specs.Places.{is_shown}
use Rattle.world.specs.Kept.{WorldState}
use Rattle.world.proofs.world.World.is_shown.Goals as goal

pub returns : goal.returns
returns c = record { shown = subst (λ (w : WorldState). w.closed ≡ false → has_row c.args.nav (history_of w.log).rows ≡ true → c.is_shown.result ≡ is_shown (history_of w.log).rows (history_of w.log).current c.args.nav) c.self.view_is (λ e row. c.is_shown.ensures _ (c.self.invariant.stands e).keeps.stands row) }
