use Rattle.tab_takes.proofs.Noted.{noted_on}
use Rattle.tab_takes.proofs.Pushed.{push_awake, push_done, push_of_document, push_ready}
use Rattle.tab_takes.proofs.Sorts.{off}
use Rattle.tab_takes.proofs.Verdicts.{apart, tells}
use Rattle.tab_takes.proofs.applying.push.Goals as goal

pub push-requires : goal.push-requires
push-requires g c =
    let told = tells _ _ _ _ _ c.requires.0 _ c.requires.1.1.0 in
    let ready = push_ready _ _ _ _ _ c.requires.0 told _ _ _ _ _ c.requires.1.1.1 in
    (c.requires.0.passing.work, (push_awake _ _ _ _ _ c.requires.0 told _ _ _ _ _ c.requires.1.1.1, (ready.0, (off _ _ _ _ _ c.requires.0, (ready.1.0, (ready.1.1, (push_of_document _ _ _ _ _ c.requires.0 told _ _ _ _ _ c.requires.1.1.1, apart _ _ _ _ _ c.requires.0)))))))

pub returns : goal.returns
returns g c =
    let told = tells _ _ _ _ _ c.requires.0 _ c.requires.1.1.0 in
    record { taken = push_done _ _ _ _ _ c.requires.0 told _ _ _ _ _ c.requires.1.1.1 _ (noted_on _ _ _ _ _ c.requires.1.0 c.in_ok-note_entries.ensures) _ _ c.in_ok-push.ensures.out c.in_ok-push.ensures.kept c.in_ok-push.ensures.work }
