use Rattle.std.proofs.Common.{ap, option_map, sym}
use Rattle.load_table.specs.Loads.{is_populating}
use Rattle.std.specs.Map.{values_of}
use Rattle.load_table.specs.declared.load.Load.{Load}
use Rattle.load_table.specs.declared.phase.Phase.TheVariants as phases
use Rattle.load_table.proofs.Keyed.{none_found, none_moves}
use Rattle.load_table.proofs.load_table.populated_in.Goals as goal

pub returns-in-None-clause-ready : goal.returns-in-None-clause-ready
returns-in-None-clause-ready c =
    none_moves (is_populating c.args.doc) (phases.Ready c.args.doc) (values_of c.args.loads.now.entries) (sym c.in-None.ensures)

pub returns-in-None-clause-req : goal.returns-in-None-clause-req
returns-in-None-clause-req c =
    ap (option_map (λ (load : Load). load.req)) (sym (none_found (is_populating c.args.doc) (values_of c.args.loads.now.entries) (sym c.in-None.ensures)))
