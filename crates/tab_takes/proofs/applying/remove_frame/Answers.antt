use Rattle.tab_takes.proofs.Noted.{noted_on}
use Rattle.tab_takes.proofs.Removed.{remove_done, remove_ready}
use Rattle.tab_takes.proofs.Sorts.{off}
use Rattle.tab_takes.proofs.Verdicts.{apart, tells}
use Rattle.tab_takes.proofs.applying.remove_frame.Goals as goal

pub remove_frame-requires : goal.remove_frame-requires
remove_frame-requires g c =
    let told = tells _ _ _ _ _ c.requires.0 _ c.requires.1.1.0 in
    let ready = remove_ready _ _ _ _ _ c.requires.0 told _ c.requires.1.1.1 in
    (c.requires.0.passing.work, (ready.0, (off _ _ _ _ _ c.requires.0, (ready.1.0, (ready.1.1, apart _ _ _ _ _ c.requires.0)))))

pub returns : goal.returns
returns g c =
    let told = tells _ _ _ _ _ c.requires.0 _ c.requires.1.1.0 in
    record { taken = remove_done _ _ _ _ _ c.requires.0 told _ c.requires.1.1.1 _ (noted_on _ _ _ _ _ c.requires.1.0 c.in_ok-note_entries.ensures) _ _ c.in_ok-remove_frame.ensures.out c.in_ok-remove_frame.ensures.kept c.in_ok-remove_frame.ensures.work }
