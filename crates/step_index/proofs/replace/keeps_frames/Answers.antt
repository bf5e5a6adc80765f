use Rattle.std.proofs.Common.{◌≡◌, ◌∙◌, sym, ap, subst, refl, Bool, true, false, not, Option}
use Rattle.std.specs.Prelude.{IfSome, nat_lt}
use Rattle.std.proofs.lemmas.Bool.{false≢true}
use Rattle.log_model.specs.declared.row.Row.{Row}
use Rattle.log_model.specs.Soundness.{is_owned_by}
use Rattle.step_index.specs.declared.groups.Group.TheVariants.{On}
use Rattle.history_laws.proofs.Members.{IsIn}
use Rattle.step_index.specs.Tracks.{rows_of}
use Rattle.step_index.specs.Spots.{keeps_frames}
use Rattle.step_index.proofs.Counting.{any_counted}
use Rattle.step_index.proofs.Searching.{item_at, item_in}
use Rattle.step_index.proofs.Replacing.{later_keeps, started_keeps, free_keeps}
use Rattle.step_index.proofs.replace.keeps_frames.Goals as goal

pub returns-then-not-starts_at : goal.returns-then-not-starts_at
returns-then-not-starts_at c =
    let rows = c.args.rows.now in
    let parts = c.args.parts.now in
    let was = c.index-rows-at.result in
    let here = item_at rows c.args.at was c.requires.within c.index-rows-at.is in
    let there : IsIn (rows_of parts.tracks.items) was = λ test passes. c.requires.part test (item_in test rows c.args.at was here passes) in
    subst (λ (o : Option Row). IfSome o (λ r. true ≡ true → keeps_frames c.args.state r (rows_of parts.tracks.items) ≡ true)) (sym here)
    (λ _. started_keeps c.args.state parts.starts.entries (rows_of parts.tracks.items) was c.requires.index.started there (sym c.starts_at.ensures ∙ c.if-not-starts_at.true))

pub returns-then-is_later : goal.returns-then-is_later
returns-then-is_later c =
    let rows = c.args.rows.now in
    let parts = c.args.parts.now in
    let was = c.index-rows-at.result in
    let here = item_at rows c.args.at was c.requires.within c.index-rows-at.is in
    subst (λ (o : Option Row). IfSome o (λ r. true ≡ true → keeps_frames c.args.state r (rows_of parts.tracks.items) ≡ true)) (sym here)
    (λ _. later_keeps c.args.state (rows_of parts.tracks.items) rows c.args.at was c.requires.sorted here (λ row in_ test passes. c.requires.part test (in_ test passes)) (sym c.is_later.ensures ∙ c.if-is_later.true))

pub returns : goal.returns
returns c =
    let rows = c.args.rows.now in
    let parts = c.args.parts.now in
    let was = c.index-rows-at.result in
    let here = item_at rows c.args.at was c.requires.within c.index-rows-at.is in
    subst (λ (o : Option Row). IfSome o (λ r. not c.has_any.result ≡ true → keeps_frames c.args.state r (rows_of parts.tracks.items) ≡ true)) (sym here)
    (λ free. free_keeps c.args.state (rows_of parts.tracks.items) was
    (sym (any_counted (is_owned_by was.state) (rows_of parts.tracks.items)) ∙ ap (nat_lt 0) (sym (c.requires.index.counted (On was.state))) ∙ sym c.has_any.ensures ∙ isnt c.has_any.result free))
  where
    isnt : (b : Bool) → not b ≡ true → b ≡ false
    isnt true is = absurd (false≢true is)
    isnt false is = refl
