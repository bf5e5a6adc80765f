-- Who is below a navigable: with one, all below that one.
use Rattle.std.proofs.Common.{◌≡◌, Bool, true, false, not, ◌&&◌, ◌||◌, ◌==◌, List, ◌∷◌, Option, Some, refl, sym, ap, ◌∙◌, subst, inl, inr, ◌⊎◌}
use Rattle.tab_ids.specs.declared.NavId.{NavId}
use Rattle.tab_ids.specs.declared.DocId.{DocId}
use Rattle.log_model.specs.AfterPlaces.{woken_below}
use Rattle.log_model.specs.Equal.{holds}
use Rattle.log_model.specs.History.{has_nav}
use Rattle.log_model.specs.Places.{is_asleep, is_below}
use Rattle.log_model.specs.Seen.{Seen, Place, awake, place_in, place_of}
use Rattle.seen_facts.specs.Hang.AsPlaces.{AreDistinct, IsLink, IsChain}
use Rattle.seen_facts.proofs.Walk.Sleepers.{has_nav_where}

pub wakes_not : (place : Place) (doc : DocId) → place.status ≡ awake doc → is_asleep place ≡ false
wakes_not place doc wakes = rw wakes refl

-- one that is awake below is woken
pub woken : (s : Seen) (distinct : AreDistinct s.places) (nav other : NavId) (place : Place) (doc : DocId) → place_of s other ≡ Some place → place.status ≡ awake doc → is_below nav place ≡ true → has_nav (woken_below s nav) other ≡ true
woken s distinct nav other place doc found wakes below =
    has_nav_where (λ (p : Place). is_below nav p && not (is_asleep p)) s.places other distinct
    ∙ ap (λ (o : Option Place). holds (λ (p : Place). is_below nav p && not (is_asleep p)) o) found
    ∙ rw (below, wakes_not place doc wakes) refl

-- the one above is the navigable, or below it, or none of both
pub above_cases : (places : List Place) (above others : List NavId) (parent nav : NavId) (up : Place) → IsChain places above → above ≡ parent ∷ others → place_in places parent ≡ Some up → ((parent.0 == nav.0) ≡ true) ⊎ (is_below nav up ≡ true) → has_nav above nav ≡ true
above_cases places above others parent nav up chain is found (inl same) = rw is (rw same refl)
above_cases places above others parent nav up chain is found (inr below) =
    let link : IsLink places parent others = (subst (λ (l : List NavId). IsChain places l) is chain).0 in
    let both : Some link.place ≡ Some up = sym link.found ∙ found in
    let one : link.place ≡ up = cc in
    let has : has_nav others nav ≡ true = ap (λ (l : List NavId). has_nav l nav) (sym link.above_is) ∙ ap (λ (p : Place). has_nav p.above nav) one ∙ below in
    rw is (or_last (parent.0 == nav.0) has)
  where
    or_last : (a : Bool) {b : Bool} → b ≡ true → (a || b) ≡ true
    or_last true e = refl
    or_last false e = e
