use Rattle.std.proofs.Common.{◌≡◌, Some, None, sym, slice_get}
use Rattle.std.specs.Map.{values_of}
use Rattle.unload_check.specs.Checks.{after_deaths}
use Rattle.unload_check.proofs.Tables.{none_at_changed, set_at_changed}
use Rattle.unload_check.proofs.unload_check.die_at.Goals as goal

pub returns-in-Some : goal.returns-in-Some
returns-in-Some c =
    let at : slice_get (values_of c.args.checks.now.entries) c.args.place ≡ Some c.in-Some.check.now = sym c.in-Some.ensures.value in
    rw c.died.ensures (set_at_changed (after_deaths c.args.docs.now) c.args.place c.in-Some.check.now c.args.checks.now.entries at)

pub returns-in-None : goal.returns-in-None
returns-in-None c =
    let at : slice_get (values_of c.args.checks.now.entries) c.args.place ≡ None = sym c.in-None.ensures.value in
    none_at_changed (after_deaths c.args.docs.now) c.args.place c.args.checks.now.entries at
