-- Who moved a navigable away moved those below it, too: so it moves all who fall asleep with it.
use Rattle.std.proofs.Common.{◌≡◌, Bool, true, false, cond, not, ◌&&◌, ◌||◌, ◌==◌, List, [], ◌∷◌, Option, Some, None, refl, sym, ap, ◌∙◌, subst, inl, inr, ◌⊎◌}
use Rattle.std.specs.Prelude.{nat_lt, option_and_then}
use Rattle.std.specs.List.{list_any}
use Rattle.std.specs.Option.{option_map_or}
use Rattle.std.proofs.lemmas.Bool.{and_parts}
use Rattle.tab_ids.specs.declared.DocId.{DocId}
use Rattle.tab_ids.specs.declared.Epoch.{Epoch}
use Rattle.tab_ids.specs.declared.NavId.{NavId}
use Rattle.log_model.specs.declared.job.Job.{Job}
use Rattle.log_model.specs.declared.job.Why.{Why}
use Rattle.log_model.specs.AfterPlaces.{sleepers_below, sleepers_with, woken_below}
use Rattle.log_model.specs.Causes.{any_place, changed_one_of, is_passed_traversal, nav_of_change}
use Rattle.log_model.specs.Equal.{holds}
use Rattle.log_model.specs.History.{has_nav}
use Rattle.log_model.specs.Places.{is_asleep, is_below, shower_of, way_of, way_to}
use Rattle.log_model.specs.Seen.{Seen, Asked, Place, place_of}
use Rattle.log_model.specs.Soundness.{IsSound}
use Rattle.seen_facts.specs.Hang.AsPlaces.{AreDistinct, IsChain}
use Rattle.seen_facts.specs.Hang.Hanging.{Hangs}
use Rattle.seen_facts.proofs.Hang.Forms.{nav_is}
use Rattle.seen_facts.proofs.Hang.Hung.{place_chain, places_distinct}
use Rattle.seen_facts.proofs.Walk.Placed.{found_nav}
use Rattle.seen_facts.proofs.Walk.Sleepers.{has_nav_where, sleepers_of}
use Rattle.seen_facts.specs.Mover.Movers.{IsMovedBy, MovesAway, took_of}
use Rattle.seen_facts.proofs.Mover.Orders.{MovesEach, MovesShown}
use Rattle.seen_facts.proofs.Mover.Stays.{any_of, one_of}

or_last : (b : Bool) {c : Bool} → c ≡ true → (b || c) ≡ true
or_last true e = refl
or_last false e = e

-- the way to a navigable is part of the way to one below it
any_above : (s : Seen) (nav : NavId) (above : List NavId) (f : NavId → Bool) → IsChain s.places above → has_nav above nav ≡ true → list_any f (way_to s nav) ≡ true → list_any f above ≡ true
any_above s nav [] f chain has any = let no_ : false ≡ true = has in cc
any_above s nav (m ∷ rest) f chain has any = by_test (m.0 == nav.0) refl (λ more. any_above s nav rest f chain.1 more any) has
  where
    by_test : (b : Bool) → (m.0 == nav.0) ≡ b → (has_nav rest nav ≡ true → list_any f rest ≡ true) → (b || has_nav rest nav) ≡ true → list_any f (m ∷ rest) ≡ true
    by_test true e more h =
        let same : m ≡ nav = nav_is m nav e in
        let found : place_of s nav ≡ Some chain.0.place = ap (place_of s) (sym same) ∙ chain.0.found in
        let way : way_to s nav ≡ way_of chain.0.place = ap (λ (o : Option Place). option_map_or way_of o (nav ∷ [])) found in
        let its : way_of chain.0.place ≡ m ∷ rest = ap (λ (n : NavId). n ∷ chain.0.place.above) (found_nav s.places m chain.0.place chain.0.found) ∙ ap (λ (l : List NavId). m ∷ l) chain.0.above_is in
        ap (list_any f) (sym (way ∙ its)) ∙ any
    by_test false e more h = or_last (f m) (more h)

module _ (s : Seen) (sound : IsSound s.history) (hangs : Hangs s) where
  any_below : (nav other : NavId) (place : Place) (f : NavId → Bool) → place_of s other ≡ Some place → is_below nav place ≡ true → list_any f (way_to s nav) ≡ true → list_any f (way_to s other) ≡ true
  any_below nav other place f there below any =
      let way : way_to s other ≡ way_of place = ap (λ (o : Option Place). option_map_or way_of o (other ∷ [])) there in
      ap (list_any f) way ∙ or_last (f place.nav) (any_above s nav place.above f (place_chain s sound hangs other place there) below any)

  pub moves_below : (q : Asked) (nav other : NavId) (place : Place) → place_of s other ≡ Some place → is_below nav place ≡ true → MovesAway s q nav → MovesAway s q other
  moves_below q nav other place there below moves =
      any_of (is_passed_traversal s q) (changed_one_of q (way_to s other)) (any_place s (way_to s other) (took_of q)) (by_case (one_of (is_passed_traversal s q) (changed_one_of q (way_to s nav)) (any_place s (way_to s nav) (took_of q)) moves))
    where
      changed : (o : Option NavId) → holds (has_nav (way_to s nav)) o ≡ true → holds (has_nav (way_to s other)) o ≡ true
      changed None e = e
      changed (Some m) e = any_below nav other place (λ n. n.0 == m.0) there below e

      by_case : (is_passed_traversal s q ≡ true) ⊎ ((changed_one_of q (way_to s nav) ≡ true) ⊎ (any_place s (way_to s nav) (took_of q) ≡ true)) → (is_passed_traversal s q ≡ true) ⊎ ((changed_one_of q (way_to s other) ≡ true) ⊎ (any_place s (way_to s other) (took_of q) ≡ true))
      by_case (inl e) = inl e
      by_case (inr (inl e)) = inr (inl (changed (option_and_then nav_of_change q.change) e))
      by_case (inr (inr e)) = inr (inr (any_below nav other place (λ n. holds (took_of q) (place_of s n)) there below e))

  distinct : AreDistinct s.places
  distinct = places_distinct s sound hangs

  -- those below it who aren't asleep
  pub woken_moves : (why : Why) (nav : NavId) → IsMovedBy s why nav → MovesEach s why (woken_below s nav)
  woken_moves why nav by other has =
      by_place (place_of s other) refl (sym (has_nav_where (λ (p : Place). is_below nav p && not (is_asleep p)) s.places other distinct) ∙ has)
    where
      by_place : (o : Option Place) → place_of s other ≡ o → holds (λ (p : Place). is_below nav p && not (is_asleep p)) o ≡ true → IsMovedBy s why other
      by_place None e h = let no_ : false ≡ true = h in absurd cc
      by_place (Some place) e h =
          record {
            req = by.req;
            q = by.q;
            why = by.why;
            there = by.there;
            moves = moves_below by.q nav other place e (and_parts (is_below nav place) (not (is_asleep place)) h).0 by.moves;
          }

  -- those who fall asleep as it is shown a document
  pub below_moves : (why : Why) (doc : DocId) (nav : NavId) → IsMovedBy s why nav → MovesEach s why (sleepers_of s doc nav)
  below_moves why doc nav by other has = by_place (place_of s nav) refl has
    where
      by_last : (place : Place) → place.nav ≡ nav → (b : Bool) → has_nav (cond b [] (woken_below s place.nav)) other ≡ true → IsMovedBy s why other
      by_last place own true h = let no_ : false ≡ true = h in absurd cc
      by_last place own false h = woken_moves why nav by other (ap (λ (n : NavId). has_nav (woken_below s n) other) (sym own) ∙ h)

      by_place : (o : Option Place) → place_of s nav ≡ o → has_nav (option_map_or (sleepers_below s doc) o []) other ≡ true → IsMovedBy s why other
      by_place None e h = let no_ : false ≡ true = h in absurd cc
      by_place (Some place) e h =
          by_last place (found_nav s.places nav place e) (holds (λ (last : DocId). last.0 == doc.0) place.last) h

  -- all that an order which shows it a document asks for
  pub shown_moves : (job : Job) (nav : NavId) (epoch : Epoch) → IsMovedBy s job.why nav → MovesShown s job nav epoch
  shown_moves job nav epoch by = record { own = λ late. by; below = below_moves job.why job.doc nav by }

  -- the same where all below it are asleep, so that nobody falls asleep: then it is moved only where this isn't its first document
  pub shown_alone : (job : Job) (nav : NavId) (epoch : Epoch) → (nat_lt 1 epoch.0 ≡ true → IsMovedBy s job.why nav) → ((other : NavId) (place : Place) → place_of s other ≡ Some place → is_below nav place ≡ true → is_asleep place ≡ true) → MovesShown s job nav epoch
  shown_alone job nav epoch own asleep_ =
      record { own = own; below = λ other has. by_place other (place_of s nav) refl has }
    where
      none_wakes : (other : NavId) (o : Option Place) → place_of s other ≡ o → holds (λ (p : Place). is_below nav p && not (is_asleep p)) o ≡ true → ⊥
      none_wakes other None e h = let no_ : false ≡ true = h in cc
      none_wakes other (Some place) e h =
          let both = and_parts (is_below nav place) (not (is_asleep place)) h in
          let no_ : false ≡ true = sym (ap not (asleep_ other place e both.0)) ∙ both.1 in
          cc

      by_last : (other : NavId) (place : Place) → place.nav ≡ nav → (b : Bool) → has_nav (cond b [] (woken_below s place.nav)) other ≡ true → IsMovedBy s job.why other
      by_last other place same true h = let no_ : false ≡ true = h in absurd cc
      by_last other place same false h =
          absurd (none_wakes other (place_of s other) refl (sym (has_nav_where (λ (p : Place). is_below nav p && not (is_asleep p)) s.places other distinct) ∙ (ap (λ (n : NavId). has_nav (woken_below s n) other) (sym same) ∙ h)))

      by_place : (other : NavId) (o : Option Place) → place_of s nav ≡ o → has_nav (option_map_or (sleepers_below s job.doc) o []) other ≡ true → IsMovedBy s job.why other
      by_place other None e h = let no_ : false ≡ true = h in absurd cc
      by_place other (Some place) e h =
          by_last other place (found_nav s.places nav place e) (holds (λ (last : DocId). last.0 == job.doc.0) place.last) h

  -- all that an order which freezes or discards a document asks for: the navigable that is awake on it, if there is one, is moved
  pub sleepers_move : (why : Why) (doc : DocId) → ((place : Place) → shower_of s doc ≡ Some place → IsMovedBy s why place.nav) → MovesEach s why (sleepers_with s doc)
  sleepers_move why doc each other has = by_shower (shower_of s doc) refl has
    where
      by_head : (place : Place) → IsMovedBy s why place.nav → (b : Bool) → (place.nav.0 == other.0) ≡ b → (b || has_nav (woken_below s place.nav) other) ≡ true → IsMovedBy s why other
      by_head place by true e h = subst (λ (n : NavId). IsMovedBy s why n) (nav_is place.nav other e) by
      by_head place by false e h = woken_moves why place.nav by other h

      by_shower : (o : Option Place) → shower_of s doc ≡ o → has_nav (option_map_or (λ (place : Place). place.nav ∷ woken_below s place.nav) o []) other ≡ true → IsMovedBy s why other
      by_shower None e h = let no_ : false ≡ true = h in absurd cc
      by_shower (Some place) e h = by_head place (each place e) (place.nav.0 == other.0) refl h
