-- What a call leaves as it was, and then another one.
use Rattle.std.proofs.Common.{refl, ◌∙◌}
use Rattle.tab_doors.specs.Working.{KeepsStore}
use Rattle.tab_doors.specs.declared.tables.Tables.{Tables}

pub kept_none : (t : Tables) → KeepsStore t t
kept_none t = record { store = refl; running = refl; goal = refl; keep = refl; checks = refl }

pub kept_then : (t u v : Tables) → KeepsStore t u → KeepsStore u v → KeepsStore t v
kept_then t u v first then_ =
    record { store = then_.store ∙ first.store; running = then_.running ∙ first.running; goal = then_.goal ∙ first.goal; keep = then_.keep ∙ first.keep; checks = then_.checks ∙ first.checks }
