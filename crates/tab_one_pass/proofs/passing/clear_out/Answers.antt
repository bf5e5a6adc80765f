use Rattle.tab_one_pass.proofs.Clears.{cleared_ends, cleared_frees, cleared_left, cleared_loaded, cleared_loads, cleared_only, cleared_open, cleared_rows, cleared_sent, cleared_strays, destroy_asks}
use Rattle.tab_one_pass.proofs.Lefts.{strays_are_left}
use Rattle.tab_one_pass.proofs.passing.clear_out.Goals as goal

pub sweep-requires : goal.sweep-requires
sweep-requires g c = (
  c.requires.0,
  (
    c.requires.1.1.1,
    strays_are_left g.p c.args.out.now c.args.tables.now c.requires.0 c.args.cause c.requires.1.0 c.args.blame.now.entries c.requires.1.1.1,
  ),
)

pub destroy_loads-requires : goal.destroy_loads-requires
destroy_loads-requires g c =
    destroy_asks g.p c.args.out.now c.args.tables.now c.requires.0 c.args.cause c.requires.1.0 c.requires.1.1.0 _ _ _ c.in_ok-sweep.ensures.passing c.in_ok-sweep.ensures.swept c.in_ok-sweep.ensures.only c.in_ok-sweep.ensures.left c.in_ok-sweep.ensures.kept

pub returns-clause-frees : goal.returns-clause-frees
returns-clause-frees g c =
    cleared_frees g.p c.args.out.now c.args.tables.now c.requires.0 c.args.cause c.requires.1.0 c.requires.1.1.0 _ _ _ c.in_ok-sweep.ensures.passing c.in_ok-sweep.ensures.swept c.in_ok-sweep.ensures.only c.in_ok-sweep.ensures.left c.in_ok-sweep.ensures.kept _ _ c.in_ok-destroy_loads.ensures.gone c.in_ok-destroy_loads.ensures.left c.in_ok-destroy_loads.ensures.kept

pub returns-clause-open_ : goal.returns-clause-open_
returns-clause-open_ g c =
    cleared_open g.p c.args.out.now c.args.tables.now c.requires.0 c.args.cause c.requires.1.0 c.requires.1.1.0 _ _ _ c.in_ok-sweep.ensures.passing c.in_ok-sweep.ensures.swept c.in_ok-sweep.ensures.only c.in_ok-sweep.ensures.left c.in_ok-sweep.ensures.kept _ _ c.in_ok-destroy_loads.ensures.gone c.in_ok-destroy_loads.ensures.left c.in_ok-destroy_loads.ensures.kept

pub returns-clause-loads : goal.returns-clause-loads
returns-clause-loads g c =
    cleared_loads g.p c.args.out.now c.args.tables.now c.requires.0 c.args.cause c.requires.1.0 c.requires.1.1.0 _ _ _ c.in_ok-sweep.ensures.passing c.in_ok-sweep.ensures.swept c.in_ok-sweep.ensures.only c.in_ok-sweep.ensures.left c.in_ok-sweep.ensures.kept _ _ c.in_ok-destroy_loads.ensures.gone c.in_ok-destroy_loads.ensures.left c.in_ok-destroy_loads.ensures.kept c.in_ok-destroy_loads.ensures.loads

pub returns-clause-strays : goal.returns-clause-strays
returns-clause-strays g c =
    cleared_strays g.p c.args.out.now c.args.tables.now c.requires.0 c.args.cause c.requires.1.0 c.requires.1.1.0 _ _ _ c.in_ok-sweep.ensures.passing c.in_ok-sweep.ensures.swept c.in_ok-sweep.ensures.only c.in_ok-sweep.ensures.left c.in_ok-sweep.ensures.kept _ _ c.in_ok-destroy_loads.ensures.gone c.in_ok-destroy_loads.ensures.left c.in_ok-destroy_loads.ensures.kept _ _ c.in_ok-note_loads.ensures

pub returns-clause-rows : goal.returns-clause-rows
returns-clause-rows g c =
    cleared_rows g.p c.args.out.now c.args.tables.now c.requires.0 c.args.cause c.requires.1.0 c.requires.1.1.0 _ _ _ c.in_ok-sweep.ensures.passing c.in_ok-sweep.ensures.swept c.in_ok-sweep.ensures.only c.in_ok-sweep.ensures.left c.in_ok-sweep.ensures.kept _ _ c.in_ok-destroy_loads.ensures.gone c.in_ok-destroy_loads.ensures.left c.in_ok-destroy_loads.ensures.kept

pub returns-clause-left : goal.returns-clause-left
returns-clause-left g c =
    cleared_left g.p c.args.out.now c.args.tables.now c.requires.0 c.args.cause c.requires.1.0 c.requires.1.1.0 _ _ _ c.in_ok-sweep.ensures.passing c.in_ok-sweep.ensures.swept c.in_ok-sweep.ensures.only c.in_ok-sweep.ensures.left c.in_ok-sweep.ensures.kept _ _ c.in_ok-destroy_loads.ensures.gone c.in_ok-destroy_loads.ensures.left c.in_ok-destroy_loads.ensures.kept

pub returns-clause-only : goal.returns-clause-only
returns-clause-only g c =
    cleared_only g.p c.args.out.now c.args.tables.now c.requires.0 c.args.cause c.requires.1.0 c.requires.1.1.0 _ _ _ c.in_ok-sweep.ensures.passing c.in_ok-sweep.ensures.swept c.in_ok-sweep.ensures.only c.in_ok-sweep.ensures.left c.in_ok-sweep.ensures.kept _ _ c.in_ok-destroy_loads.ensures.gone c.in_ok-destroy_loads.ensures.left c.in_ok-destroy_loads.ensures.kept c.in_ok-destroy_loads.ensures.only

pub returns-clause-loaded : goal.returns-clause-loaded
returns-clause-loaded g c =
    cleared_loaded g.p c.args.out.now c.args.tables.now c.requires.0 c.args.cause c.requires.1.0 c.requires.1.1.0 _ _ _ c.in_ok-sweep.ensures.passing c.in_ok-sweep.ensures.swept c.in_ok-sweep.ensures.only c.in_ok-sweep.ensures.left c.in_ok-sweep.ensures.kept _ _ c.in_ok-destroy_loads.ensures.gone c.in_ok-destroy_loads.ensures.left c.in_ok-destroy_loads.ensures.kept

pub returns-clause-sent : goal.returns-clause-sent
returns-clause-sent g c =
    cleared_sent g.p c.args.out.now c.args.tables.now c.requires.0 c.args.cause c.requires.1.0 c.requires.1.1.0 _ _ _ c.in_ok-sweep.ensures.passing c.in_ok-sweep.ensures.swept c.in_ok-sweep.ensures.only c.in_ok-sweep.ensures.left c.in_ok-sweep.ensures.kept _ _ c.in_ok-destroy_loads.ensures.gone c.in_ok-destroy_loads.ensures.left c.in_ok-destroy_loads.ensures.kept c.in_ok-destroy_loads.ensures.only

pub returns-clause-ends : goal.returns-clause-ends
returns-clause-ends g c =
    cleared_ends g.p c.args.out.now c.args.tables.now c.requires.0 c.args.cause c.requires.1.0 c.requires.1.1.0 _ _ _ c.in_ok-sweep.ensures.passing c.in_ok-sweep.ensures.swept c.in_ok-sweep.ensures.only c.in_ok-sweep.ensures.left c.in_ok-sweep.ensures.kept _ _ c.in_ok-destroy_loads.ensures.gone c.in_ok-destroy_loads.ensures.left c.in_ok-destroy_loads.ensures.kept c.in_ok-destroy_loads.ensures.only
