use Rattle.std.proofs.Common.{ap}
use Rattle.std.specs.Prelude.{is_some}
use Rattle.tab_takes.proofs.Added.{add_done, add_ready, entries_room, is_added, states_room}
use Rattle.tab_takes.proofs.Sorts.{off}
use Rattle.tab_takes.proofs.Verdicts.{apart, has_node, tells}
use Rattle.tab_takes.proofs.applying.add_frame.Goals as goal

pub nav_there-parent-requires : goal.nav_there-parent-requires
nav_there-parent-requires g c = ap is_some (has_node _ _ _ _ _ c.requires.0).found

pub add_frame-requires : goal.add_frame-requires
add_frame-requires g c =
    let told = tells _ _ _ _ _ c.requires.0 _ c.requires.1.0 in
    let ready = add_ready _ _ _ _ _ c.requires.0 told _ _ _ _ c.requires.1.1 in
    (c.requires.0.passing.work, (ready.0, (off _ _ _ _ _ c.requires.0, (ready.1.0, (ready.1.1, (is_added _ _ _ _ _ c.requires.0 told _ _ _ _ c.requires.1.1 _ c.nav_there-parent.ensures, (states_room _ _ _ _ _ c.requires.0 told, (entries_room _ _ _ _ _ c.requires.0 told, apart _ _ _ _ _ c.requires.0))))))))

pub returns : goal.returns
returns g c =
    let told = tells _ _ _ _ _ c.requires.0 _ c.requires.1.0 in
    record { taken = add_done _ _ _ _ _ c.requires.0 told _ _ _ _ c.requires.1.1 _ _ c.in_ok-add_frame.ensures.out c.in_ok-add_frame.ensures.kept c.in_ok-add_frame.ensures.work }
