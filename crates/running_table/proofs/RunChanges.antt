-- What a change of the lists of all navigables makes of who runs in each.
use Rattle.std.proofs.Common.{◌≡◌, ℕ, Bool, true, false, cond, ◌==◌, List, [], Option, Some, None, refl, sym, ap, ◌∙◌, subst, arith}
use Rattle.std.specs.Prelude.{OnErr, Result, Ok, Err}
use Rattle.std.specs.Map.{lookup}
use Rattle.std.proofs.lemmas.Bool.Decides.{nat_tests}
use Rattle.tab_ids.specs.declared.DocId.{DocId}
use Rattle.tab_ids.specs.declared.Epoch.{Epoch}
use Rattle.tab_ids.specs.declared.NavId.{NavId}
use Rattle.running_table.specs.Runners.{is_nav, runners_in, epoch_of, RunOn}

pub same_nav : (a b : NavId) → (a.0 == b.0) ≡ true → a ≡ b
same_nav a b same =
    let n : a.0 ≡ b.0 = grind (arith, nat_tests, same) in ap (λ (i : ℕ). let nav : NavId = record { 0 = i } in nav) n

-- what follows from an error follows of a result
pub on_err : {T E : Type 0} (r : Result T E) (P Q : Type 0) → (P → Q) → OnErr r P → OnErr r Q
on_err (Ok x) P Q f p = p
on_err (Err e) P Q f p = f p

module _ (old new : List (NavId × List (DocId × Epoch))) (of : NavId) where
  -- the list of one navigable becomes this, or goes
  abbrev pub Updated : Option (List (DocId × Epoch)) → Type 0
  Updated list = (nav : NavId) → lookup (is_nav nav) new ≡ cond (of.0 == nav.0) list (lookup (is_nav nav) old)

  other : (list : Option (List (DocId × Epoch))) → Updated list → (nav : NavId) → (of.0 == nav.0) ≡ false → runners_in new nav ≡ runners_in old nav
  other list updates nav e =
      rw (updates nav ∙ ap (λ (b : Bool). cond b list (lookup (is_nav nav) old)) e) refl

  same : (list : Option (List (DocId × Epoch))) → Updated list → (nav : NavId) → (of.0 == nav.0) ≡ true → lookup (is_nav nav) new ≡ list
  same list updates nav e = updates nav ∙ ap (λ (b : Bool). cond b list (lookup (is_nav nav) old)) e

  -- an empty list goes
  pub cleared : runners_in old of ≡ [] → Updated None → RunOn old new
  cleared none updates nav doc =
      ap (λ (l : List (DocId × Epoch)). epoch_of l doc) (by_test (of.0 == nav.0) refl)
    where
      by_test : (b : Bool) → (of.0 == nav.0) ≡ b → runners_in new nav ≡ runners_in old nav
      by_test true e =
          let before : runners_in old nav ≡ [] = subst (λ (n : NavId). runners_in old n ≡ []) (same_nav of nav e) none in
          rw (same None updates nav e) (sym before)
      by_test false e = other None updates nav e

  -- the list that is found is written again
  pub kept : (runners now : List (DocId × Epoch)) → lookup (is_nav of) old ≡ Some runners → Updated (Some now) → now ≡ runners → RunOn old new
  kept runners now there updates is nav doc =
      ap (λ (l : List (DocId × Epoch)). epoch_of l doc) (by_test (of.0 == nav.0) refl)
    where
      by_test : (b : Bool) → (of.0 == nav.0) ≡ b → runners_in new nav ≡ runners_in old nav
      by_test true e =
          let before : lookup (is_nav nav) old ≡ Some runners = subst (λ (n : NavId). lookup (is_nav n) old ≡ Some runners) (same_nav of nav e) there in
          rw (same (Some now) updates nav e, before) is
      by_test false e = other (Some now) updates nav e
