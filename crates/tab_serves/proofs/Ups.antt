-- Who is up, that is awake, shown, and not under its first epoch, is as it was over a turn of a walk in a calm tab: who is in need was never shown a document, and is under its first epoch once it is; around a load's navigable it may be that one.
use Rattle.tab_facts.proofs.Calm.Calms.{calm_need}
use Rattle.tab_facts.proofs.Calm.Turns.{IsInPlace, around_need, later_in, own_in}
use Rattle.tab_facts.specs.Calm.Calm.{IsCalmAround, KeepsCalm}
use Rattle.seen_facts.proofs.Hang.Forms.{nav_is}
use Rattle.seen_facts.specs.Hang.Hanging.{Hangs}
use Rattle.log_model.specs.History.{History, has_nav}
use Rattle.log_model.specs.Places.{aim_of, is_below, is_shown}
use Rattle.log_model.specs.Seen.{Place, Seen, place_in, place_of}
use Rattle.log_model.specs.Soundness.{IsSound}
use Rattle.seen_facts.specs.Place.Standing.{AreStanding}
use Rattle.std.proofs.Common.{Bool, List, None, Option, Some, ap, arith, false, inl, inr, refl, subst, sym, true, ◌==◌, ◌∙◌, ◌∷◌, ◌≡◌, ◌≤◌, ◌⊎◌}
use Rattle.std.specs.Prelude.{option_map}
use Rattle.tab_ids.specs.declared.DocId.{DocId}
use Rattle.tab_ids.specs.declared.NavId.{NavId}
use Rattle.tab_serves.specs.Serving.{IsUp, KeepsUp}
use Rattle.seen_facts.specs.Walk.Walking.{LeavesOthers}
use Rattle.row_facts.specs.WalkRows.Since.{IsVisitedInNeed}

-- ---- where no place changes, and one change after the other

pub up_places : (s t : Seen) → t.places ≡ s.places → KeepsUp s t
up_places s t places =
    record {
      yet = λ now calm nav place doc up. ap (λ (l : List Place). place_in l nav) (sym places) ∙ up.placed;
      around = λ now at calm nav place doc up. inl (ap (λ (l : List Place). place_in l nav) (sym places) ∙ up.placed);
    }

pub up_then : (s t u : Seen) → t.history ≡ s.history → aim_of t ≡ aim_of s → u.history ≡ t.history → KeepsCalm s t → KeepsUp s t → KeepsUp t u → KeepsUp s u
up_then s t u history aim later calms one two =
    record {
      yet = λ now calm nav place doc up. one.yet now calm nav place doc (back nav place doc (two.yet (then_ now) (calms.yet now calm) nav place doc up) up);
      around = λ now at calm nav place doc up. by_case now at calm nav place doc up (two.around (then_ now) at (calms.around now at calm) nav place doc up);
    }
  where
    then_ : aim_of s ≡ s.history.current → aim_of t ≡ t.history.current
    then_ now = aim ∙ now ∙ ap (λ (h : History). h.current) (sym history)

    back : (nav : NavId) (place : Place) (doc : DocId) → place_of t nav ≡ Some place → IsUp u nav place doc → IsUp t nav place doc
    back nav place doc placed up =
        record {
          placed = placed;
          wakes = up.wakes;
          shown = ap (λ (h : History). is_shown h.rows h.current nav) (sym later) ∙ up.shown;
          later = up.later;
        }

    by_case : aim_of s ≡ s.history.current → (at : NavId) → IsCalmAround s at → (nav : NavId) (place : Place) (doc : DocId) → IsUp u nav place doc → (place_of t nav ≡ Some place) ⊎ (has_nav (nav ∷ place.above) at ≡ true) → (place_of s nav ≡ Some place) ⊎ (has_nav (nav ∷ place.above) at ≡ true)
    by_case now at calm nav place doc up (inl same) = one.around now at calm nav place doc (back nav place doc same up)
    by_case now at calm nav place doc up (inr under) = inr under

-- ---- a turn

module _ (s t : Seen) (sound : IsSound s.history) (hangs : Hangs s) (standing : AreStanding s) (at : NavId) (place : Place) (placed : place_of s at ≡ Some place) (visited : IsVisitedInNeed s place) (others : LeavesOthers s t at) (own : aim_of s ≡ s.history.current → (p : Place) → place_of t at ≡ Some p → (p ≡ place) ⊎ IsInPlace s p) (raised : (other : NavId) (q : Place) → place_of s other ≡ Some q → is_below at q ≡ true → 1 ≤ place.epoch.0) (first : (p : Place) → place_of t at ≡ Some p → (p ≡ place) ⊎ (place.last ≡ None → p.epoch.0 ≡ 1)) where
  -- those above stay
  above_same : (nav : NavId) (p q : Place) → place_of t nav ≡ Some p → place_of s nav ≡ Some q → p.above ≡ q.above
  above_same nav p q now was =
      let both : Some p.above ≡ Some q.above = sym (ap (option_map (λ (x : Place). x.above)) now) ∙ others.ways nav ∙ ap (option_map (λ (x : Place). x.above)) was in
      cc

  -- another one is below, or as it was
  beside : (nav : NavId) (p : Place) (doc : DocId) → (nav.0 == at.0) ≡ false → IsUp t nav p doc → (is_below at p ≡ true) ⊎ (place_of s nav ≡ Some p)
  beside nav p doc differs up = by_below (is_below at p) refl
    where
      by_below : (b : Bool) → is_below at p ≡ b → (is_below at p ≡ true) ⊎ (place_of s nav ≡ Some p)
      by_below true below = inl below
      by_below false apart =
          inr (sym (others.others nav (record { differs = differs; beside = λ q there. ap (λ (l : List NavId). has_nav l at) (sym (above_same nav p q up.placed there)) ∙ apart })) ∙ up.placed)

  -- ---- where it was never shown a document

  module _ (never_shown : place.epoch.0 ≡ 0) where
    -- none is below it
    none_below : (nav : NavId) (p : Place) → place_of t nav ≡ Some p → is_below at p ≡ true → ⊥
    none_below nav p now below = by_old (place_of s nav) refl
      where
        by_old : (o : Option Place) → place_of s nav ≡ o → ⊥
        by_old None none =
            let never : Some p.above ≡ None = sym (ap (option_map (λ (x : Place). x.above)) now) ∙ others.ways nav ∙ ap (option_map (λ (x : Place). x.above)) none in
            cc
        by_old (Some q) was =
            let up = raised nav q was (ap (λ (l : List NavId). has_nav l at) (sym (above_same nav p q now was)) ∙ below) in
            absurd (omega (arith, up, never_shown))

    own_same : (p : Place) (doc : DocId) → IsUp t at p doc → place_of s at ≡ Some p
    own_same p doc up = by_own (first p up.placed)
      where
        by_own : (p ≡ place) ⊎ (place.last ≡ None → p.epoch.0 ≡ 1) → place_of s at ≡ Some p
        by_own (inl same) = placed ∙ ap (λ (x : Place). let o : Option Place = Some x in o) (sym same)
        by_own (inr one) =
            let is = one ((standing at place placed).told.0 never_shown).last in
            let low = up.later in
            absurd (omega (arith, is, low))

    pub all_same : (nav : NavId) (p : Place) (doc : DocId) → IsUp t nav p doc → place_of s nav ≡ Some p
    all_same nav p doc up = by_nav (nav.0 == at.0) refl
      where
        by_nav : (b : Bool) → (nav.0 == at.0) ≡ b → place_of s nav ≡ Some p
        by_nav true same =
            let one = nav_is nav at same in
            subst (λ (n : NavId). place_of s n ≡ Some p) (sym one) (own_same p doc (subst (λ (n : NavId). IsUp t n p doc) one up))
        by_nav false differs = by_beside (beside nav p doc differs up)
          where
            by_beside : (is_below at p ≡ true) ⊎ (place_of s nav ≡ Some p) → place_of s nav ≡ Some p
            by_beside (inl below) = absurd (none_below nav p up.placed below)
            by_beside (inr same) = same

  -- ---- where it is a load's

  around_same : (by nav : NavId) (p : Place) (doc : DocId) → (at.0 == by.0) ≡ true → IsUp t nav p doc → (place_of s nav ≡ Some p) ⊎ (has_nav (nav ∷ p.above) by ≡ true)
  around_same by nav p doc is up = by_nav (nav.0 == at.0) refl
    where
      one : at ≡ by
      one = nav_is at by is

      by_nav : (b : Bool) → (nav.0 == at.0) ≡ b → (place_of s nav ≡ Some p) ⊎ (has_nav (nav ∷ p.above) by ≡ true)
      by_nav true same =
          inr (subst (λ (n : NavId). has_nav (n ∷ p.above) by ≡ true) (sym (nav_is nav at same ∙ one)) (own_in by p.above))
      by_nav false differs = by_beside (beside nav p doc differs up)
        where
          by_beside : (is_below at p ≡ true) ⊎ (place_of s nav ≡ Some p) → (place_of s nav ≡ Some p) ⊎ (has_nav (nav ∷ p.above) by ≡ true)
          by_beside (inl below) = inr (later_in nav by p.above (subst (λ (n : NavId). has_nav p.above n ≡ true) one below))
          by_beside (inr same) = inl same

  pub turn_up : KeepsUp s t
  turn_up =
      record {
        yet = λ now calm nav p doc up. all_same (calm_need s standing now sound hangs calm at place placed visited) nav p doc up;
        around = λ now by calm nav p doc up. by_need by nav p doc up (around_need s t sound hangs standing now at place placed visited others (own now) raised by calm);
      }
    where
      by_need : (by nav : NavId) (p : Place) (doc : DocId) → IsUp t nav p doc → ((at.0 == by.0) ≡ true) ⊎ (place.epoch.0 ≡ 0) → (place_of s nav ≡ Some p) ⊎ (has_nav (nav ∷ p.above) by ≡ true)
      by_need by nav p doc up (inl is) = around_same by nav p doc is up
      by_need by nav p doc up (inr none) = inl (all_same none nav p doc up)
