use Rattle.tab_begins.proofs.Takes.{apply_asks, drop_asks, has_taken, taken_around, taken_awake, taken_blamed, taken_gone, taken_kept, taken_last, taken_loads, taken_made, taken_open, taken_over, taken_queue, taken_turning}
use Rattle.tab_begins.proofs.taking.take_load.Goals as goal

pub apply_ready-requires : goal.apply_ready-requires
apply_ready-requires g c = apply_asks g.r.pass _ _ c.requires.0 _ g.r.load c.requires.1.1.0 c.requires.1.1.1.1.0 _ c.requires.1.1.1.1.1

pub drop_below-requires : goal.drop_below-requires
drop_below-requires g c =
    drop_asks g.r.pass _ _ c.requires.0 _ g.r.load c.requires.1.1.0 c.requires.1.1.1.1.0 _ c.requires.1.1.1.1.1 _ c.requires.1.1.1.0 _ c.in_ok-note_entries.ensures _ _ c.in_ok-apply_ready.ensures.passing c.in_ok-apply_ready.ensures.applied

pub returns-clause-turning : goal.returns-clause-turning
returns-clause-turning g c =
    taken_turning g.r.pass _ _ c.requires.0 _ g.r.load c.requires.1.1.0 c.requires.1.1.1.1.0 _ c.requires.1.1.1.1.1 _ c.requires.1.1.1.0 _ c.in_ok-note_entries.ensures _ _ c.in_ok-apply_ready.ensures.passing c.in_ok-apply_ready.ensures.applied _ _ c.in_ok-drop_below.ensures.gone c.in_ok-drop_below.ensures.left c.in_ok-drop_below.ensures.kept c.requires.1.0

pub returns-clause-taken : goal.returns-clause-taken
returns-clause-taken g c =
    has_taken g.r.pass _ _ c.requires.0 _ g.r.load c.requires.1.1.0 c.requires.1.1.1.1.0 _ c.requires.1.1.1.1.1 _ c.requires.1.1.1.0 _ c.in_ok-note_entries.ensures _ _ c.in_ok-apply_ready.ensures.passing c.in_ok-apply_ready.ensures.applied _ _ c.in_ok-drop_below.ensures.gone c.in_ok-drop_below.ensures.left c.in_ok-drop_below.ensures.kept c.in_ok-drop_below.ensures.only

pub returns-clause-over : goal.returns-clause-over
returns-clause-over g c =
    taken_over g.r.pass _ _ c.requires.0 _ g.r.load c.requires.1.1.0 c.requires.1.1.1.1.0 _ c.requires.1.1.1.1.1 _ c.requires.1.1.1.0 _ c.in_ok-note_entries.ensures _ _ c.in_ok-apply_ready.ensures.passing c.in_ok-apply_ready.ensures.applied _ _ c.in_ok-drop_below.ensures.gone c.in_ok-drop_below.ensures.left c.in_ok-drop_below.ensures.kept

pub returns-clause-queue : goal.returns-clause-queue
returns-clause-queue g c =
    taken_queue g.r.pass _ _ c.requires.0 _ g.r.load c.requires.1.1.0 c.requires.1.1.1.1.0 _ c.requires.1.1.1.1.1 _ c.requires.1.1.1.0 _ c.in_ok-note_entries.ensures _ _ c.in_ok-apply_ready.ensures.passing c.in_ok-apply_ready.ensures.applied _ _ c.in_ok-drop_below.ensures.gone c.in_ok-drop_below.ensures.left c.in_ok-drop_below.ensures.kept

pub returns-clause-gone : goal.returns-clause-gone
returns-clause-gone g c =
    taken_gone g.r.pass _ _ c.requires.0 _ g.r.load c.requires.1.1.0 c.requires.1.1.1.1.0 _ c.requires.1.1.1.1.1 _ c.requires.1.1.1.0 _ c.in_ok-note_entries.ensures _ _ c.in_ok-apply_ready.ensures.passing c.in_ok-apply_ready.ensures.applied _ _ c.in_ok-drop_below.ensures.gone c.in_ok-drop_below.ensures.left c.in_ok-drop_below.ensures.kept

pub returns-clause-open_ : goal.returns-clause-open_
returns-clause-open_ g c =
    taken_open g.r.pass _ _ c.requires.0 _ g.r.load c.requires.1.1.0 c.requires.1.1.1.1.0 _ c.requires.1.1.1.1.1 _ c.requires.1.1.1.0 _ c.in_ok-note_entries.ensures _ _ c.in_ok-apply_ready.ensures.passing c.in_ok-apply_ready.ensures.applied _ _ c.in_ok-drop_below.ensures.gone c.in_ok-drop_below.ensures.left c.in_ok-drop_below.ensures.kept

pub returns-clause-loads : goal.returns-clause-loads
returns-clause-loads g c =
    taken_loads g.r.pass _ _ c.requires.0 _ g.r.load c.requires.1.1.0 c.requires.1.1.1.1.0 _ c.requires.1.1.1.1.1 _ c.requires.1.1.1.0 _ c.in_ok-note_entries.ensures _ _ c.in_ok-apply_ready.ensures.passing c.in_ok-apply_ready.ensures.applied _ _ c.in_ok-drop_below.ensures.gone c.in_ok-drop_below.ensures.left c.in_ok-drop_below.ensures.kept

pub returns-clause-blamed : goal.returns-clause-blamed
returns-clause-blamed g c =
    taken_blamed g.r.pass _ _ c.requires.0 _ g.r.load c.requires.1.1.0 c.requires.1.1.1.1.0 _ c.requires.1.1.1.1.1 _ c.requires.1.1.1.0 _ c.in_ok-note_entries.ensures _ _ c.in_ok-apply_ready.ensures.passing c.in_ok-apply_ready.ensures.applied _ _ c.in_ok-drop_below.ensures.gone c.in_ok-drop_below.ensures.left c.in_ok-drop_below.ensures.kept _ c.in_ok-note_loads.ensures

pub returns-clause-kept : goal.returns-clause-kept
returns-clause-kept g c =
    taken_kept g.r.pass _ _ c.requires.0 _ g.r.load c.requires.1.1.0 c.requires.1.1.1.1.0 _ c.requires.1.1.1.1.1 _ c.requires.1.1.1.0 _ c.in_ok-note_entries.ensures _ _ c.in_ok-apply_ready.ensures.passing c.in_ok-apply_ready.ensures.applied _ _ c.in_ok-drop_below.ensures.gone c.in_ok-drop_below.ensures.left c.in_ok-drop_below.ensures.kept

pub returns-clause-around : goal.returns-clause-around
returns-clause-around g c =
    taken_around g.r.pass _ _ c.requires.0 _ g.r.load c.requires.1.1.0 c.requires.1.1.1.1.0 _ c.requires.1.1.1.1.1 _ c.requires.1.1.1.0 _ c.in_ok-note_entries.ensures _ _ c.in_ok-apply_ready.ensures.passing c.in_ok-apply_ready.ensures.applied _ _ c.in_ok-drop_below.ensures.gone c.in_ok-drop_below.ensures.left c.in_ok-drop_below.ensures.kept

pub returns-clause-last : goal.returns-clause-last
returns-clause-last g c =
    taken_last g.r.pass _ _ c.requires.0 _ g.r.load c.requires.1.1.0 c.requires.1.1.1.1.0 _ c.requires.1.1.1.1.1 _ c.requires.1.1.1.0 _ c.in_ok-note_entries.ensures _ _ c.in_ok-apply_ready.ensures.passing c.in_ok-apply_ready.ensures.applied _ _ c.in_ok-drop_below.ensures.gone c.in_ok-drop_below.ensures.left c.in_ok-drop_below.ensures.kept

pub returns-clause-wakes : goal.returns-clause-wakes
returns-clause-wakes g c =
    taken_awake g.r.pass _ _ c.requires.0 _ g.r.load c.requires.1.1.0 c.requires.1.1.1.1.0 _ c.requires.1.1.1.1.1 _ c.requires.1.1.1.0 _ c.in_ok-note_entries.ensures _ _ c.in_ok-apply_ready.ensures.passing c.in_ok-apply_ready.ensures.applied _ _ c.in_ok-drop_below.ensures.gone c.in_ok-drop_below.ensures.left c.in_ok-drop_below.ensures.kept

pub returns-clause-made : goal.returns-clause-made
returns-clause-made g c =
    taken_made g.r.pass _ _ c.requires.0 _ g.r.load c.requires.1.1.0 c.requires.1.1.1.1.0 _ c.requires.1.1.1.1.1 _ c.requires.1.1.1.0 _ c.in_ok-note_entries.ensures _ _ c.in_ok-apply_ready.ensures.passing c.in_ok-apply_ready.ensures.applied _ _ c.in_ok-drop_below.ensures.gone c.in_ok-drop_below.ensures.left c.in_ok-drop_below.ensures.kept
