-- Who moved each navigable away, over each applied change: the places hang as before, and stay as awake as they were.
use Rattle.std.proofs.Common.{◌≡◌, ℕ, true, not, ◌&&◌, ◌==◌, List, [], ◌∷◌, ◌++◌, Option, Some, None, refl}
use Rattle.std.specs.Prelude.{option_and_then}
use Rattle.std.specs.Option.{option_map_or}
use Rattle.tab_ids.specs.declared.EntryId.{EntryId}
use Rattle.tab_ids.specs.declared.NavId.{NavId}
use Rattle.tab_ids.specs.declared.ReqId.{ReqId}
use Rattle.tab_ids.specs.declared.StateId.{StateId}
use Rattle.log_model.specs.declared.change.Change.{Change}
use Rattle.log_model.specs.declared.change.Change.TheVariants as changes
use Rattle.log_model.specs.declared.made.Made.{Made}
use Rattle.log_model.specs.declared.row_kind.Actor.{Actor}
use Rattle.log_model.specs.declared.row_kind.RowKind.TheVariants as rows
use Rattle.log_model.specs.After.{after}
use Rattle.log_model.specs.AfterPlaces.{given_entry, new_place, on_place, places_added, places_applied, places_given, with_taker}
use Rattle.log_model.specs.History.{History, applied, has_row}
use Rattle.log_model.specs.Places.{holder_of}
use Rattle.log_model.specs.Seen.{Seen, Asked, Place, place_of, request_of}
use Rattle.seen_facts.specs.Mover.Movers.{AreMovers}
use Rattle.seen_facts.proofs.Asked.Passed.{have_passed}
use Rattle.seen_facts.proofs.Mover.Asked.{applied_follow}
use Rattle.seen_facts.proofs.Mover.Places.{KeepPlaces, any_behind, places_both, places_if, places_more, same_places}
use Rattle.seen_facts.proofs.Mover.Rows.{quietly_follow}

given_places : (s : Seen) (req : ReqId) (nav : NavId) (entry : EntryId) → KeepPlaces s.places (places_given s req nav entry)
given_places s req nav entry = by_made (option_and_then (λ (q : Asked). q.made) (request_of s req))
  where
    by_made : (o : Option Made) → KeepPlaces s.places (option_map_or (λ (made : Made). on_place nav (given_entry entry) s.places) o s.places)
    by_made None = same_places s.places
    by_made (Some made) =
        places_if (λ (p : Place). p.nav.0 == nav.0) (given_entry entry) s.places (record { nav = λ p. refl; above = λ p. refl; given = λ p test any. any_behind test entry p.ever_given any }) (record { nav = λ p. refl; status = λ p. refl; epoch = λ p. refl; why = λ p. refl })

added_places : (s : Seen) (req : ReqId) (owner : StateId) (nav : NavId) → KeepPlaces s.places (places_added s req owner nav)
added_places s req owner nav = by_parent (option_and_then (place_of s) (holder_of owner s.history.rows))
  where
    by_parent : (o : Option Place) → KeepPlaces s.places (option_map_or (λ parent. s.places ++ new_place req nav owner parent ∷ []) o s.places)
    by_parent None = same_places s.places
    by_parent (Some parent) = places_more s.places (new_place req nav owner parent) refl

taker_places : (old new : History) (req : ReqId) (places : List Place) → KeepPlaces places (with_taker old new req places)
taker_places old new req places =
    places_if (λ (p : Place). has_row p.nav old.rows && not (has_row p.nav new.rows)) (λ (p : Place). record p { taken_by = Some req }) places (record { nav = λ p. refl; above = λ p. refl; given = λ p test any. any }) (record { nav = λ p. refl; status = λ p. refl; epoch = λ p. refl; why = λ p. refl })

taken_places : (s : Seen) (req : ReqId) (change : Change) (places : List Place) → KeepPlaces s.places places → KeepPlaces s.places (with_taker s.history (applied s.history change) req places)
taken_places s req change places first =
    places_both s.places places (with_taker s.history (applied s.history change) req places) first (taker_places s.history (applied s.history change) req places)

pub applied_places : (s : Seen) (req : ReqId) (change : Change) → KeepPlaces s.places (places_applied s req change)
applied_places s req (changes.Push nav entry state address memo) =
    taken_places s req (changes.Push nav entry state address memo) (places_given s req nav entry) (given_places s req nav entry)
applied_places s req (changes.Replace nav over entry state address memo) =
    taken_places s req (changes.Replace nav over entry state address memo) (places_given s req nav entry) (given_places s req nav entry)
applied_places s req (changes.AddFrame owner nav entry state) =
    taken_places s req (changes.AddFrame owner nav entry state) (places_added s req owner nav) (added_places s req owner nav)
applied_places s req (changes.RemoveFrame nav) = taken_places s req (changes.RemoveFrame nav) s.places (same_places s.places)
applied_places s req (changes.Traverse goal) = taken_places s req (changes.Traverse goal) s.places (same_places s.places)
applied_places s req (changes.Reload nav) =
    taken_places s req (changes.Reload nav) (on_place nav (λ place. record place { is_pending = true; is_unmet = true }) s.places) (places_if (λ (p : Place). p.nav.0 == nav.0) (λ (p : Place). record p { is_pending = true; is_unmet = true }) s.places (record { nav = λ p. refl; above = λ p. refl; given = λ p test any. any }) (record { nav = λ p. refl; status = λ p. refl; epoch = λ p. refl; why = λ p. refl }))
applied_places s req changes.Edit = taken_places s req changes.Edit s.places (same_places s.places)

-- ---- all of it

-- the applied request has no outcome yet
pub applied_movers : (s : Seen) (event : ℕ) (actor : Actor) (req : ReqId) (change : Change) → AreMovers s → ((q : Asked) → request_of s req ≡ Some q → q.ending ≡ None) → AreMovers (after s (record { event = event; actor = actor; row = rows.Applied req change }))
applied_movers s event actor req change are open_ =
    quietly_follow s (after s (record { event = event; actor = actor; row = rows.Applied req change })) are (applied_follow s s.requests req change open_ are.ends) (have_passed s (record { event = event; actor = actor; row = rows.Applied req change }) tt tt are.passed) (applied_places s req change)
