use Rattle.std.proofs.Common.{◌≡◌, Some, sym, ap, option_map, slice_get}
use Rattle.std.specs.Map.{values_of}
use Rattle.load_table.specs.declared.load.Load.{Load}
use Rattle.load_table.specs.declared.phase.Phase.TheVariants as phases
use Rattle.load_table.specs.Loads.{is_populating}
use Rattle.load_table.proofs.Keyed.{found_at, keyed_at, values_at}
use Rattle.load_table.proofs.load_table.ready_at.Goals as goal

pub returns-in-Some-clause-keyed : goal.returns-in-Some-clause-keyed
returns-in-Some-clause-keyed c =
    let is : slice_get (values_of c.args.loads.now.entries) c.args.place ≡ Some c.in-Some.load.now = sym c.in-Some.ensures.value in
    keyed_at (is_populating c.args.doc) (phases.Ready c.args.doc) c.args.loads.now.entries c.args.place c.in-Some.load.now c.requires.keyed c.requires.first is

pub returns-in-Some-clause-ready : goal.returns-in-Some-clause-ready
returns-in-Some-clause-ready c =
    let is : slice_get (values_of c.args.loads.now.entries) c.args.place ≡ Some c.in-Some.load.now = sym c.in-Some.ensures.value in
    values_at (is_populating c.args.doc) (phases.Ready c.args.doc) c.args.loads.now.entries c.args.place c.in-Some.load.now c.requires.first is

pub returns-in-Some-clause-req : goal.returns-in-Some-clause-req
returns-in-Some-clause-req c =
    let is : slice_get (values_of c.args.loads.now.entries) c.args.place ≡ Some c.in-Some.load.now = sym c.in-Some.ensures.value in
    ap (option_map (λ (load : Load). load.req)) (sym (found_at (is_populating c.args.doc) (values_of c.args.loads.now.entries) c.args.place c.in-Some.load.now c.requires.first is))
