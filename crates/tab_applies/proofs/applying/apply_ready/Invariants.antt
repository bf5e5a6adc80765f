use Rattle.load_doors.specs.Applying.{new_entry}
use Rattle.navigate_core.specs.Navigations.{change_for}
use Rattle.tab_applies.proofs.applying.apply_ready.Given as goal

abbrev pub ghost-apply_load : goal.ghost-apply_load
ghost-apply_load g a = record { event = g.r.pass.event; load = g.r.load; change = change_for g.r.load a.over (new_entry a.tables.now) }
