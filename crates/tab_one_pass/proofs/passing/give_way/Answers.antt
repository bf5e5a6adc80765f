use Rattle.tab_one_pass.proofs.Gives.{idle_only, idle_stand, move_asks, moved_frees, moved_left, moved_noted, moved_only, moved_open}
use Rattle.tab_one_pass.proofs.Passes.{left_none}
use Rattle.tab_one_pass.proofs.passing.give_way.Goals as goal

pub drop_moved-requires : goal.drop_moved-requires
drop_moved-requires g c =
    move_asks g.p c.args.out.now c.args.tables.now c.requires.0 c.args.cause c.requires.1.0 c.requires.1.1.0 c.in-Some.by c.in-Some.is

pub returns-in_ok-drop_moved-in-Some-clause-open_ : goal.returns-in_ok-drop_moved-in-Some-clause-open_
returns-in_ok-drop_moved-in-Some-clause-open_ g c =
    moved_open g.p c.args.out.now c.args.tables.now c.requires.0 c.args.cause c.requires.1.0 c.requires.1.1.0 c.in-Some.by c.in-Some.is _ _ c.in_ok-drop_moved-in-Some.ensures.passing c.in_ok-drop_moved-in-Some.ensures.left c.in_ok-drop_moved-in-Some.ensures.kept

pub returns-in_ok-drop_moved-in-Some-clause-blamed : goal.returns-in_ok-drop_moved-in-Some-clause-blamed
returns-in_ok-drop_moved-in-Some-clause-blamed g c =
    moved_noted g.p c.args.out.now c.args.tables.now c.requires.0 c.args.cause c.requires.1.0 c.requires.1.1.0 c.in-Some.by c.in-Some.is _ _ c.in_ok-drop_moved-in-Some.ensures.passing c.in_ok-drop_moved-in-Some.ensures.left c.in_ok-drop_moved-in-Some.ensures.kept _ _ c.in_ok-note_loads-in-Some.ensures c.requires.1.1.1

pub returns-in_ok-drop_moved-in-Some-clause-left : goal.returns-in_ok-drop_moved-in-Some-clause-left
returns-in_ok-drop_moved-in-Some-clause-left g c =
    moved_left g.p c.args.out.now c.args.tables.now c.requires.0 c.args.cause c.requires.1.0 c.requires.1.1.0 c.in-Some.by c.in-Some.is _ _ c.in_ok-drop_moved-in-Some.ensures.passing c.in_ok-drop_moved-in-Some.ensures.left c.in_ok-drop_moved-in-Some.ensures.kept

pub returns-in_ok-drop_moved-in-Some-clause-only : goal.returns-in_ok-drop_moved-in-Some-clause-only
returns-in_ok-drop_moved-in-Some-clause-only g c =
    moved_only g.p c.args.out.now c.args.tables.now c.requires.0 c.args.cause c.requires.1.0 c.requires.1.1.0 c.in-Some.by c.in-Some.is _ _ c.in_ok-drop_moved-in-Some.ensures.passing c.in_ok-drop_moved-in-Some.ensures.left c.in_ok-drop_moved-in-Some.ensures.kept c.in_ok-drop_moved-in-Some.ensures.only

pub returns-in-None-clause-loads : goal.returns-in-None-clause-loads
returns-in-None-clause-loads g c =
    idle_stand g.p c.args.out.now c.args.tables.now c.requires.0 c.args.cause c.requires.1.0 c.requires.1.1.0 c.in-None.is

pub returns-in-None-clause-left : goal.returns-in-None-clause-left
returns-in-None-clause-left g c = left_none _

pub returns-in-None-clause-only : goal.returns-in-None-clause-only
returns-in-None-clause-only g c =
    idle_only g.p c.args.out.now c.args.tables.now c.requires.0 c.args.cause c.requires.1.0 c.requires.1.1.0 c.in-None.is

pub returns-in_ok-drop_moved-in-Some-clause-frees : goal.returns-in_ok-drop_moved-in-Some-clause-frees
returns-in_ok-drop_moved-in-Some-clause-frees g c =
    moved_frees g.p c.args.out.now c.args.tables.now c.requires.0 c.args.cause c.requires.1.0 c.requires.1.1.0 c.in-Some.by c.in-Some.is _ _ c.in_ok-drop_moved-in-Some.ensures.passing c.in_ok-drop_moved-in-Some.ensures.left c.in_ok-drop_moved-in-Some.ensures.kept

pub returns-in-None-clause-frees : goal.returns-in-None-clause-frees
returns-in-None-clause-frees g c = λ frees. frees
