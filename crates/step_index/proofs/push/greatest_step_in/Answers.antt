use Rattle.std.proofs.Common.{◌-◌, ℕ, List, ap, sym, ◌∙◌, length, arith}
use Rattle.std.specs.Prelude.{slice_get}
use Rattle.std.proofs.lemmas.Option.{none-some, slice_get-get_or}
use Rattle.std.proofs.Common.{get_or}
use Rattle.step_index.specs.Parts.{history_in}
use Rattle.entry_store.proofs.LastStep.{some_used, last_is_greatest}
use Rattle.step_index.proofs.push.greatest_step_in.Goals as goal

pub returns-in-Some : goal.returns-in-Some
returns-in-Some c =
    last_is_greatest (history_in c.args.parts.now) c.args.parts.now.used.items c.requires.kept c.in-Some.last.now
    (ap (λ (used : List ℕ). slice_get used (length used - 1)) (sym c.deref.ensures.value) ∙ sym c.in-Some.ensures.value)

pub returns-in-None : goal.returns-in-None
returns-in-None c =
    let used = c.args.parts.now.used.items in
    let some = some_used (history_in c.args.parts.now) used c.requires.kept in
    absurd (none-some (get_or used (length used - 1) 0)
    (c.in-None.ensures.value ∙ ap (λ (steps : List ℕ). slice_get steps (length steps - 1)) c.deref.ensures.value ∙ slice_get-get_or used (length used - 1) 0 (omega (arith, some))))
