use Rattle.tab_takes.proofs.Replaced.{replace_awake, replace_done, replace_of_document, replace_ready}
use Rattle.tab_takes.proofs.Sorts.{off}
use Rattle.tab_takes.proofs.Verdicts.{apart, tells}
use Rattle.tab_takes.proofs.applying.replace.Goals as goal

pub replace-requires : goal.replace-requires
replace-requires g c =
    let told = tells _ _ _ _ _ c.requires.0 _ c.requires.1.0 in
    let ready = replace_ready _ _ _ _ _ c.requires.0 told _ _ _ _ _ _ c.requires.1.1 in
    (c.requires.0.passing.work, (replace_awake _ _ _ _ _ c.requires.0 told _ _ _ _ _ _ c.requires.1.1, (ready.0, (off _ _ _ _ _ c.requires.0, (ready.1.0, (ready.1.1, (replace_of_document _ _ _ _ _ c.requires.0 told _ _ _ _ _ _ c.requires.1.1, apart _ _ _ _ _ c.requires.0)))))))

pub returns : goal.returns
returns g c =
    let told = tells _ _ _ _ _ c.requires.0 _ c.requires.1.0 in
    record { taken = replace_done _ _ _ _ _ c.requires.0 told _ _ _ _ _ _ c.requires.1.1 _ _ c.in_ok-replace.ensures.out c.in_ok-replace.ensures.kept c.in_ok-replace.ensures.work }
