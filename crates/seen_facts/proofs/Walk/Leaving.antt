-- Who is served stays so while rows serve another navigable, that isn't above it; so one turn of a walk after the other serves all.
use Rattle.std.proofs.Common.{◌≡◌, ℕ, zero, suc, ◌+◌, ◌<◌, Bool, true, false, not, ◌||◌, ◌==◌, List, [], ◌∷◌, length, Option, Some, None, refl, sym, ap, ◌∙◌, subst, arith}
use Rattle.std.specs.Prelude.{option_map, slice_get}
use Rattle.std.specs.List.{list_any}
use Rattle.std.proofs.lemmas.Bool.Decides.{nat_tests}
use Rattle.tab_ids.specs.declared.NavId.{NavId}
use Rattle.tab_ids.specs.declared.StateId.{StateId}
use Rattle.log_model.specs.Equal.{holds}
use Rattle.log_model.specs.History.{History, has_nav, target_entry}
use Rattle.log_model.specs.Places.{is_shown, aim_of}
use Rattle.log_model.specs.Seen.{Seen, Place, place_in, place_of}
use Rattle.log_model.specs.Soundness.{IsSound}
use Rattle.log_model.proofs.Refl.{nat_eq_refl}
use Rattle.seen_facts.specs.Hang.AsPlaces.{IsChain}
use Rattle.seen_facts.specs.Hang.Hanging.{Hangs}
use Rattle.seen_facts.proofs.Hang.Forms.{nav_is}
use Rattle.seen_facts.proofs.Hang.Hung.{place_chain}
use Rattle.seen_facts.specs.Walk.Serving.{is_in_place, is_stopping, is_needing, IsMaking, IsServed, IsServedAt, AreServed}
use Rattle.seen_facts.specs.Walk.Walking.{IsApart, LeavesOthers, IsWalk, AreServedUpTo}
use Rattle.seen_facts.proofs.Walk.OnWays.{or_none}

-- those above stay, so they stop the walk as before
stopping_same : (s t : Seen) (step : ℕ) (above : List NavId) → t.history ≡ s.history → ((nav : NavId) → has_nav above nav ≡ true → place_of t nav ≡ place_of s nav) → list_any (is_stopping t.history.rows step t.places) above ≡ list_any (is_stopping s.history.rows step s.places) above
stopping_same s t step [] history same = refl
stopping_same s t step (nav ∷ above) history same =
    both_same (here (same nav own)) (stopping_same s t step above history (λ other has. same other (more (nav.0 == other.0) (has_nav above other) has)))
  where
    own : has_nav (nav ∷ above) nav ≡ true
    own = ap (λ (b : Bool). b || has_nav above nav) (nat_eq_refl nav.0)

    more : (b c : Bool) → c ≡ true → (b || c) ≡ true
    more true c e = refl
    more false c e = e

    both_same : {a b c d : Bool} → a ≡ c → b ≡ d → (a || b) ≡ (c || d)
    both_same e f = rw (e, f) refl

    here : place_of t nav ≡ place_of s nav → is_stopping t.history.rows step t.places nav ≡ is_stopping s.history.rows step s.places nav
    here e = ap (λ (h : History). not (holds (is_in_place h.rows step) (place_in t.places nav))) history ∙ ap (λ (o : Option Place). not (holds (is_in_place s.history.rows step) o)) e

served_again : (s t : Seen) (step : ℕ) (place : Place) → t.history ≡ s.history → ((nav : NavId) → has_nav place.above nav ≡ true → place_of t nav ≡ place_of s nav) → ((state : StateId) → IsMaking s.documents state → IsMaking t.documents state) → IsServed s.history.rows s.places s.documents step place → IsServed t.history.rows t.places t.documents step place
served_again s t step place history same making served shown reached needs target at =
    making target.state (served
    (ap (λ (h : History). is_shown h.rows step place.nav) (sym history) ∙ shown)
    (sym (stopping_same s t step place.above history same) ∙ reached)
    (ap (λ (h : History). is_needing h.rows step place) (sym history) ∙ needs)
    target
    (ap (λ (h : History). target_entry h.rows place.nav step) (sym history) ∙ at))

-- who is above one that is apart is apart
above_apart : (s : Seen) (nav : NavId) (above : List NavId) → IsChain s.places above → has_nav above nav ≡ false → (other : NavId) → has_nav above other ≡ true → IsApart s nav other
above_apart s nav [] chain none other has = let no_ : false ≡ true = has in cc
above_apart s nav (first ∷ above) chain none other has = by_first (first.0 == other.0) refl (above_apart s nav above chain.1 parts.1 other) has
  where
    parts : ((first.0 == nav.0) ≡ false) × (has_nav above nav ≡ false)
    parts = or_none (first.0 == nav.0) (has_nav above nav) none

    by_first : (b : Bool) → (first.0 == other.0) ≡ b → (has_nav above other ≡ true → IsApart s nav other) → (b || has_nav above other) ≡ true → IsApart s nav other
    by_first true e more h =
        let same : first ≡ other = nav_is first other e in
        subst (λ (m : NavId). IsApart s nav m) same (record {
          differs = parts.0;
          beside = λ place found. let one : Some chain.0.place ≡ Some place = sym chain.0.found ∙ found in let is : chain.0.place ≡ place = cc in ap (λ (p : Place). has_nav p.above nav) (sym is) ∙ ap (λ (l : List NavId). has_nav l nav) chain.0.above_is ∙ parts.1;
        })
    by_first false e more h = more h

module _ (s t : Seen) (sound : IsSound s.history) (hangs : Hangs s) where
  pub served_kept : (nav other : NavId) → LeavesOthers s t nav → IsApart s nav other → IsServedAt s other → IsServedAt t other
  served_kept nav other leaves apart served = record {
    serve = λ place found.
        let was : place_of s other ≡ Some place = sym (leaves.others other apart) ∙ found in
        subst (λ (step : ℕ). IsServed t.history.rows t.places t.documents step place) (sym leaves.aim) (served_again s t (aim_of s) place leaves.history
        (λ up has. leaves.others up (above_apart s nav place.above (place_chain s sound hangs other place was) (apart.beside place was) up has))
        leaves.making
        (served.serve place was));
  }

  -- so one turn of the walk keeps what the turns before it did
  pub one_more : (walk : List NavId) (n : ℕ) (nav : NavId) → slice_get walk n ≡ Some nav → IsWalk s walk → LeavesOthers s t nav → IsServedAt t nav → AreServedUpTo s walk n → AreServedUpTo t walk (n + 1)
  one_more walk n nav here is leaves mine done = record { each = λ k other low there. by_test k other low there (k == n) refl }
    where
      by_test : (k : ℕ) (other : NavId) → k < n + 1 → slice_get walk k ≡ Some other → (b : Bool) → (k == n) ≡ b → IsServedAt t other
      by_test k other low there true e =
          let same : k ≡ n = grind (arith, nat_tests, e) in
          let one : Some other ≡ Some nav = sym there ∙ ap (λ (i : ℕ). slice_get walk i) same ∙ here in
          let navs : other ≡ nav = cc in
          subst (λ (m : NavId). IsServedAt t m) (sym navs) mine
      by_test k other low there false e =
          let less : k < n = grind (arith, nat_tests, e, low) in
          served_kept nav other leaves (is.apart k n other nav less there here) (done.each k other less there)

-- and the walk stays one
pub walk_stays : (s t : Seen) (walk : List NavId) (nav : NavId) → LeavesOthers s t nav → IsWalk s walk → IsWalk t walk
walk_stays s t walk nav leaves is =
    record {
      all = λ other place found. let old = back other place found in is.all other old.0 old.1;
      apart = λ i j one other less here there. let was = is.apart i j one other less here there in record { differs = was.differs; beside = λ place found. let old = back one place found in ap (λ (l : List NavId). has_nav l other) (sym old.2) ∙ was.beside old.0 old.1 };
    }
  where
    back : (other : NavId) (place : Place) → place_of t other ≡ Some place → (old : Place) × (place_of s other ≡ Some old) × (old.above ≡ place.above)
    back other place found = by_old (place_of s other) refl (leaves.ways other)
      where
        by_old : (o : Option Place) → place_of s other ≡ o → option_map (λ (p : Place). p.above) (place_of t other) ≡ option_map (λ (p : Place). p.above) o → (old : Place) × (place_of s other ≡ Some old) × (old.above ≡ place.above)
        by_old None e w = let no_ : Some place.above ≡ None = sym (ap (λ (o : Option Place). option_map (λ (p : Place). p.above) o) found) ∙ w in cc
        by_old (Some old) e w = (old, e, let same : Some place.above ≡ Some old.above = sym (ap (λ (o : Option Place). option_map (λ (p : Place). p.above) o) found) ∙ w in let is_ : old.above ≡ place.above = cc in is_)

-- at the end of the walk each is served
pub all_served : (s : Seen) (walk : List NavId) → IsWalk s walk → AreServedUpTo s walk (length walk) → AreServed s
all_served s walk is done = record { each = λ nav. record { serve = λ place found. by_member nav place found (member nav walk (is.all nav place found)) } }
  where
    within : (nav : NavId) (navs : List NavId) (k : ℕ) → slice_get navs k ≡ Some nav → k < length navs
    within nav [] k e = cc
    within nav (n ∷ navs) zero e = omega arith
    within nav (n ∷ navs) (suc k) e = let more = within nav navs k e in omega (arith, more)

    member : (nav : NavId) (navs : List NavId) → has_nav navs nav ≡ true → (k : ℕ) × (slice_get navs k ≡ Some nav)
    member nav [] e = let no_ : false ≡ true = e in cc
    member nav (n ∷ navs) e = by_test (n.0 == nav.0) refl (member nav navs) e
      where
        by_test : (b : Bool) → (n.0 == nav.0) ≡ b → (has_nav navs nav ≡ true → (k : ℕ) × (slice_get navs k ≡ Some nav)) → (b || has_nav navs nav) ≡ true → (k : ℕ) × (slice_get (n ∷ navs) k ≡ Some nav)
        by_test true t more f = (0, ap (λ (m : NavId). Some m) (nav_is n nav t))
        by_test false t more f = let m = more f in (suc m.0, m.1)

    by_member : (nav : NavId) (place : Place) → place_of s nav ≡ Some place → (k : ℕ) × (slice_get walk k ≡ Some nav) → IsServed s.history.rows s.places s.documents (aim_of s) place
    by_member nav place found at = (done.each at.0 nav (within nav walk at.0 at.1) at.1).serve place found
