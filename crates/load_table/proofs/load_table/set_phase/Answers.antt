use Rattle.std.proofs.Common.{◌≡◌, Some, None, sym}
use Rattle.std.specs.Map.{lookup}
use Rattle.load_table.specs.Loads.{in_phase, is_nav}
use Rattle.load_table.proofs.Keyed.{keyed_set, values_absent, values_set}
use Rattle.load_table.proofs.load_table.set_phase.Goals as goal

pub returns-in-Some-clause-keyed : goal.returns-in-Some-clause-keyed
returns-in-Some-clause-keyed c =
    let at : lookup (is_nav c.args.nav) c.args.loads.now.entries ≡ Some c.in-Some.load.now = sym c.in-Some.ensures.value in
    let set = c.get_mut.follows.holds (in_phase c.args.phase c.in-Some.load.now) in
    rw set.0 (keyed_set c.args.nav c.args.phase c.in-Some.load.now c.args.loads.now.entries c.requires at)

pub returns-in-Some-clause-moved : goal.returns-in-Some-clause-moved
returns-in-Some-clause-moved c =
    let at : lookup (is_nav c.args.nav) c.args.loads.now.entries ≡ Some c.in-Some.load.now = sym c.in-Some.ensures.value in
    let set = c.get_mut.follows.holds (in_phase c.args.phase c.in-Some.load.now) in
    rw set.0 (values_set c.args.nav c.args.phase c.in-Some.load.now c.args.loads.now.entries c.requires at)

pub returns-in-None-clause-moved : goal.returns-in-None-clause-moved
returns-in-None-clause-moved c =
    let at : lookup (is_nav c.args.nav) c.args.loads.now.entries ≡ None = sym c.in-None.ensures.value in
    rw c.get_mut.follows.holds-at-none (values_absent c.args.nav c.args.phase c.args.loads.now.entries c.requires at)
