-- Who of those that run in a navigable is the newest: the one that is picked is, and there is no other.
use Rattle.std.proofs.Common.{◌≡◌, ◌⊎◌, inl, inr, ℕ, ◌≤◌, ◌<◌, Bool, true, false, cond, ◌&&◌, ◌||◌, ◌==◌, nat_lt, List, [], ◌∷◌, fold, Option, Some, None, refl, sym, ap, ◌∙◌, subst, arith}
use Rattle.std.specs.Prelude.{option_map}
use Rattle.std.specs.List.{AllByRecursion, IsDistinct}
use Rattle.std.specs.Map.{keys_of}
use Rattle.std.proofs.lemmas.Bool.Decides.{nat_tests}
use Rattle.std.proofs.lemmas.Map.Keys.{IsDistinct-head, IsDistinct-tail}
use Rattle.tab_ids.specs.declared.DocId.{DocId}
use Rattle.tab_ids.specs.declared.Epoch.{Epoch}
use Rattle.log_model.proofs.Refl.{nat_eq_refl}
use Rattle.running_table.specs.Picking.{is_newer, newer_runner}
use Rattle.running_table.specs.Runners.{AreOnce, is_doc, epoch_of, IsFirst, IsNewestOf}

pub same_doc : (a b : DocId) → (a.0 == b.0) ≡ true → a ≡ b
same_doc a b same =
    let n : a.0 ≡ b.0 = grind (arith, nat_tests, same) in ap (λ (i : ℕ). let doc : DocId = record { 0 = i } in doc) n

-- ---- each document once

none_of : (first : DocId) (es : List (DocId × Epoch)) → AllByRecursion (λ other. is_doc first other ≡ false) (keys_of es) → epoch_of es first ≡ None
none_of first [] apart = refl
none_of first (e ∷ es) apart = rw apart.0 (none_of first es apart.1)

pub once_of : (es : List (DocId × Epoch)) → IsDistinct is_doc (keys_of es) → AreOnce es
once_of [] distinct = tt
once_of (e ∷ es) distinct =
    (none_of e.0 es (IsDistinct-head is_doc e.0 (keys_of es) distinct), once_of es (IsDistinct-tail is_doc e.0 (keys_of es) distinct))

-- ---- which of two is newer

-- the first is no newer than the second
abbrev pub Below : DocId × Epoch → DocId × Epoch → Type 0
Below e best = (e.1.0 < best.1.0) ⊎ ((e.1.0 ≡ best.1.0) × (best.0.0 ≤ e.0.0))

below_itself : (e : DocId × Epoch) → Below e e
below_itself e = inr (refl, omega arith)

below_through : (a b c : DocId × Epoch) → Below a b → Below b c → Below a c
below_through a b c (inl less) (inl more) = inl (omega (arith, less, more))
below_through a b c (inl less) (inr same) = inl (omega (arith, less, same.0))
below_through a b c (inr same) (inl more) = inl (omega (arith, same.0, more))
below_through a b c (inr same) (inr more) = inr (same.0 ∙ more.0, omega (arith, same.1, more.1))

newer_above : (best e : DocId × Epoch) (x y z : Bool) → nat_lt best.1.0 e.1.0 ≡ x → (best.1.0 == e.1.0) ≡ y → nat_lt e.0.0 best.0.0 ≡ z → (x || (y && z)) ≡ true → Below best e
newer_above best e true y z greater equal lower t = inl (grind (arith, nat_tests, greater))
newer_above best e false true true greater equal lower t =
    let less : e.0.0 < best.0.0 = grind (arith, nat_tests, lower) in
    inr (grind (arith, nat_tests, equal), omega (arith, less))
newer_above best e false true false greater equal lower t = cc
newer_above best e false false z greater equal lower t = cc

older_below : (best e : DocId × Epoch) (x y z : Bool) → nat_lt best.1.0 e.1.0 ≡ x → (best.1.0 == e.1.0) ≡ y → nat_lt e.0.0 best.0.0 ≡ z → (x || (y && z)) ≡ false → Below e best
older_below best e true y z greater equal lower t = cc
older_below best e false true true greater equal lower t = cc
older_below best e false true false greater equal lower t =
    let least : best.0.0 ≤ e.0.0 = grind (arith, nat_tests, lower) in
    let same : best.1.0 ≡ e.1.0 = grind (arith, nat_tests, equal) in
    inr (sym same, least)
older_below best e false false z greater equal lower t = inl (grind (arith, nat_tests, greater, equal))

-- ---- the newest of all

-- what is picked of these, with one that was picked before them
record IsBest (before : DocId × Epoch) (es : List (DocId × Epoch)) (best : DocId × Epoch) : Type 0 where
  pub picked : fold newer_runner (Some before) es ≡ Some best
  pub whose : (best ≡ before) ⊎ (epoch_of es best.0 ≡ Some best.1)
  pub above : Below before best
  pub rest : (other : DocId) (under : Epoch) → epoch_of es other ≡ Some under → Below (other, under) best

record Best (before : DocId × Epoch) (es : List (DocId × Epoch)) : Type 0 where
  pub best : DocId × Epoch
  pub is : IsBest before es best

-- one that is found among the others is found among all
found_behind : (e : DocId × Epoch) (es : List (DocId × Epoch)) (best : DocId × Epoch) → epoch_of es e.0 ≡ None → epoch_of es best.0 ≡ Some best.1 → epoch_of (e ∷ es) best.0 ≡ Some best.1
found_behind e es best once there = by_test (best.0.0 == e.0.0) refl
  where
    by_test : (b : Bool) → (best.0.0 == e.0.0) ≡ b → epoch_of (e ∷ es) best.0 ≡ Some best.1
    by_test true t =
        let none : epoch_of es best.0 ≡ None = subst (λ (doc : DocId). epoch_of es doc ≡ None) (sym (same_doc best.0 e.0 t)) once in
        let never : None ≡ Some best.1 = sym none ∙ there in cc
    by_test false t = rw t there

here : (e : DocId × Epoch) (es : List (DocId × Epoch)) → epoch_of (e ∷ es) e.0 ≡ Some e.1
here e es = rw (nat_eq_refl e.0.0) refl

-- what is said of each of the others, and of the first, is said of all
each_below : (e : DocId × Epoch) (es : List (DocId × Epoch)) (best : DocId × Epoch) → Below e best → ((other : DocId) (under : Epoch) → epoch_of es other ≡ Some under → Below (other, under) best) → (other : DocId) (under : Epoch) → epoch_of (e ∷ es) other ≡ Some under → Below (other, under) best
each_below e es best first rest other under there = by_test (other.0 == e.0.0) refl there
  where
    by_test : (b : Bool) → (other.0 == e.0.0) ≡ b → cond b (Some e.1) (epoch_of es other) ≡ Some under → Below (other, under) best
    by_test true t f =
        let epoch : e.1 ≡ under = cc in
        subst (λ (doc : DocId). Below (doc, under) best) (sym (same_doc other e.0 t)) (subst (λ (u : Epoch). Below (e.0, u) best) epoch first)
    by_test false t f = rest other under f

best_of : (before : DocId × Epoch) (es : List (DocId × Epoch)) → AreOnce es → Best before es
best_of before [] once =
    record { best = before; is = record { picked = refl; whose = inl refl; above = below_itself before; rest = λ other under there. cc } }
best_of before (e ∷ es) once =
    by_test (is_newer before e) refl (best_of e es once.1) (best_of before es once.1)
  where
    by_test : (b : Bool) → is_newer before e ≡ b → Best e es → Best before es → Best before (e ∷ es)
    by_test true t more other =
        let first : Below e more.best = more.is.above in
        let below : Below before e = newer_above before e (nat_lt before.1.0 e.1.0) (before.1.0 == e.1.0) (nat_lt e.0.0 before.0.0) refl refl refl t in
        let by_case : ((more.best ≡ e) ⊎ (epoch_of es more.best.0 ≡ Some more.best.1)) → epoch_of (e ∷ es) more.best.0 ≡ Some more.best.1 = whose_of more.best in
        record {
          best = more.best;
          is =
              record {
                picked = rw t more.is.picked;
                whose = inr (by_case more.is.whose);
                above = below_through before e more.best below first;
                rest = each_below e es more.best first more.is.rest;
              };
        }
      where
        whose_of : (best : DocId × Epoch) → ((best ≡ e) ⊎ (epoch_of es best.0 ≡ Some best.1)) → epoch_of (e ∷ es) best.0 ≡ Some best.1
        whose_of best (inl same) =
            subst (λ (x : DocId × Epoch). epoch_of (e ∷ es) x.0 ≡ Some x.1) (sym same) (here e es)
        whose_of best (inr there) = found_behind e es best once.0 there
    by_test false t other more =
        let below : Below e before = older_below before e (nat_lt before.1.0 e.1.0) (before.1.0 == e.1.0) (nat_lt e.0.0 before.0.0) refl refl refl t in
        record {
          best = more.best;
          is =
              record {
                picked = rw t more.is.picked;
                whose = whose_of more.best more.is.whose;
                above = more.is.above;
                rest = each_below e es more.best (below_through e before more.best below more.is.above) more.is.rest;
              };
        }
      where
        whose_of : (best : DocId × Epoch) → ((best ≡ before) ⊎ (epoch_of es best.0 ≡ Some best.1)) → (best ≡ before) ⊎ (epoch_of (e ∷ es) best.0 ≡ Some best.1)
        whose_of best (inl same) = inl same
        whose_of best (inr there) = inr (found_behind e es best once.0 there)

-- the one that is picked of all is the newest
pub newest_picked : (runners : List (DocId × Epoch)) → AreOnce runners → IsNewestOf runners (option_map (λ (e : DocId × Epoch). e.0) (fold newer_runner None runners))
newest_picked [] once = λ doc. refl
newest_picked (e ∷ es) once =
    let b = best_of e es once.1 in
    rw b.is.picked (record { epoch = b.best.1; runs = by_case b.best b.is.whose; first = each_below e es b.best b.is.above b.is.rest })
  where
    by_case : (best : DocId × Epoch) → ((best ≡ e) ⊎ (epoch_of es best.0 ≡ Some best.1)) → epoch_of (e ∷ es) best.0 ≡ Some best.1
    by_case best (inl same) =
        subst (λ (x : DocId × Epoch). epoch_of (e ∷ es) x.0 ≡ Some x.1) (sym same) (here e es)
    by_case best (inr there) = found_behind e es best once.0 there

-- ---- there is no other

first_same : (runners : List (DocId × Epoch)) (a b : DocId) → IsFirst runners a → IsFirst runners b → a ≡ b
first_same runners a b one two = by_cases (one.first b two.epoch two.runs) (two.first a one.epoch one.runs)
  where
    by_cases : ((two.epoch.0 < one.epoch.0) ⊎ ((two.epoch.0 ≡ one.epoch.0) × (a.0 ≤ b.0))) → ((one.epoch.0 < two.epoch.0) ⊎ ((one.epoch.0 ≡ two.epoch.0) × (b.0 ≤ a.0))) → a ≡ b
    by_cases (inl less) (inl more) = absurd (let wrong : ⊥ = omega (arith, less, more) in wrong)
    by_cases (inl less) (inr more) = absurd (let wrong : ⊥ = omega (arith, less, more.0) in wrong)
    by_cases (inr less) (inl more) = absurd (let wrong : ⊥ = omega (arith, less.0, more) in wrong)
    by_cases (inr less) (inr more) =
        let n : a.0 ≡ b.0 = omega (arith, less.1, more.1) in ap (λ (i : ℕ). let doc : DocId = record { 0 = i } in doc) n

-- of those among whom the same documents run under the same epochs
pub newest_same : (xs ys : List (DocId × Epoch)) (a b : Option DocId) → ((doc : DocId) → epoch_of xs doc ≡ epoch_of ys doc) → IsNewestOf xs a → IsNewestOf ys b → a ≡ b
newest_same xs ys None None same one two = refl
newest_same xs ys None (Some b) same one two =
    let never : None ≡ Some two.epoch = sym (one b) ∙ (same b ∙ two.runs) in cc
newest_same xs ys (Some a) None same one two =
    let never : None ≡ Some one.epoch = sym (two a) ∙ (sym (same a) ∙ one.runs) in cc
newest_same xs ys (Some a) (Some b) same one two =
    let over : IsFirst ys a = record { epoch = one.epoch; runs = sym (same a) ∙ one.runs; first = λ other under there. one.first other under (same other ∙ there) } in
    ap (λ (doc : DocId). let o : Option DocId = Some doc in o) (first_same ys a b over two)
