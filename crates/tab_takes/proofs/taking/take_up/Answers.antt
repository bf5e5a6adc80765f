use Rattle.std.proofs.Common.{ap, arith}
use Rattle.std.specs.Prelude.{is_some}
use Rattle.tab_takes.proofs.Added.{entries_room, states_room}
use Rattle.tab_takes.proofs.Asks.{asked_then, lacking_own, no_go, state_own, state_some, taken_denial}
use Rattle.tab_takes.proofs.Verdicts.{has_node, tells}
use Rattle.tab_takes.proofs.taking.take_up.Goals as goal

pub nav_there-nav-requires : goal.nav_there-nav-requires
nav_there-nav-requires g c = ap is_some (has_node _ _ _ _ _ c.requires.0).found

pub state_there-state-requires : goal.state_there-state-requires
state_there-state-requires g c = state_some _ _ _ _ _ c.requires.0 (tells _ _ _ _ _ c.requires.0 _ c.requires.1.1)

pub overflow_add-entry : goal.overflow_add-entry
overflow_add-entry g c =
    let room = entries_room _ _ _ _ _ c.requires.0 (tells _ _ _ _ _ c.requires.0 _ c.requires.1.1) in
    grind (arith, room)

pub overflow_add-fresh : goal.overflow_add-fresh
overflow_add-fresh g c =
    let room = states_room _ _ _ _ _ c.requires.0 (tells _ _ _ _ _ c.requires.0 _ c.requires.1.1) in
    grind (arith, room)

pub change_of-requires : goal.change_of-requires
change_of-requires g c = no_go _ _ _ _ _ c.requires.0 (tells _ _ _ _ _ c.requires.0 _ c.requires.1.1)

pub apply-requires : goal.apply-requires
apply-requires g c =
    (c.requires.0, (c.requires.1.0, (c.requires.1.1, asked_then _ _ _ _ _ c.requires.0 (tells _ _ _ _ _ c.requires.0 _ c.requires.1.1) _ _ _ c.nav_there-nav.ensures c.state_there-state.ensures c.in-Ok.ensures.ok)))

pub denied-requires : goal.denied-requires
denied-requires g c =
    (c.requires.0, taken_denial _ _ _ _ _ c.requires.0 (tells _ _ _ _ _ c.requires.0 _ c.requires.1.1) (c.in-Err-NavTaken.ensures.taken.0 (let same = c.in-Err-NavTaken.field-0-is in cc)))

pub denied-requires-in-Err-NoNavigable : goal.denied-requires-in-Err-NoNavigable
denied-requires-in-Err-NoNavigable g c =
    let told = tells _ _ _ _ _ c.requires.0 _ c.requires.1.1 in
    (c.requires.0, lacking_own _ _ _ _ _ c.requires.0 told _ (state_own _ _ _ _ _ c.requires.0 told _ c.state_there-state.ensures) (c.in-Err-NoNavigable.ensures.lacking (let same = c.in-Err-NoNavigable.field-0-is in cc)))
