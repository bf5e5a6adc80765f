-- What rows leave of where the navigables hang: each has its place still, below the same ones, added by the same request, and was ever shown a document or not as before.
use Rattle.log_model.specs.AfterPlaces.{given_entry, new_place, on_place, places_added, places_applied, places_given, with_taker}
use Rattle.log_model.specs.History.{History, applied, has_row}
use Rattle.log_model.specs.Places.{holder_of}
use Rattle.log_model.specs.Seen.{Asked, Place, Seen, place_in, place_of, request_of}
use Rattle.log_model.specs.declared.change.Change.{Change}
use Rattle.log_model.specs.declared.made.Made.{Made}
use Rattle.seen_laws.proofs.Keyed.{find_map}
use Rattle.std.proofs.Common.{Bool, List, None, Option, Some, [], ap, cond, false, map, not, refl, true, ◌&&◌, ◌++◌, ◌==◌, ◌∙◌, ◌∷◌, ◌≡◌}
use Rattle.std.proofs.lemmas.List.Folds.{find-append}
use Rattle.std.specs.Option.{option_map_or}
use Rattle.std.specs.Prelude.{option_and_then, option_map}
use Rattle.tab_ids.specs.declared.EntryId.{EntryId}
use Rattle.tab_ids.specs.declared.NavId.{NavId}
use Rattle.tab_ids.specs.declared.ReqId.{ReqId}
use Rattle.tab_ids.specs.declared.StateId.{StateId}
use Rattle.log_model.specs.declared.change.Change.TheVariants as changes

-- ---- one place

-- the navigable hangs as before, and was ever shown a document or not as before
pub record HangsAlike (old new : Place) : Type 0 where
  pub nav_is : new.nav ≡ old.nav
  pub above : new.above ≡ old.above
  pub added : new.added_by ≡ old.added_by
  pub shown : new.was_activated ≡ old.was_activated

-- a place that stays
pub same_hangs : (place : Place) → HangsAlike place place
same_hangs place = record { nav_is = refl; above = refl; added = refl; shown = refl }

-- one that changes where a test says so
if_hangs : (b : Bool) (old new : Place) → HangsAlike old new → HangsAlike old (cond b new old)
if_hangs true old new is = is
if_hangs false old new is = same_hangs old

-- ---- each place hangs as before

-- the navigable has a place still, and hangs as before
pub record IsThere (places : List Place) (nav : NavId) (place : Place) : Type 0 where
  pub then_ : Place
  pub at : place_in places nav ≡ Some then_
  pub hangs : HangsAlike place then_

-- so has each that had one
abbrev pub StayThere : List Place → List Place → Type 0
StayThere old new = (nav : NavId) (place : Place) → place_in old nav ≡ Some place → IsThere new nav place

-- where nothing changes
pub there_same : (places : List Place) → StayThere places places
there_same places nav place at = record { then_ = place; at = at; hangs = same_hangs place }

-- over two changes, one after the other
pub there_then : (a b c : List Place) → StayThere a b → StayThere b c → StayThere a c
there_then a b c first second nav place at =
    let one = first nav place at in
    let two = second nav one.then_ one.at in
    record {
      then_ = two.then_;
      at = two.at;
      hangs = record {
        nav_is = two.hangs.nav_is ∙ one.hangs.nav_is;
        above = two.hangs.above ∙ one.hangs.above;
        added = two.hangs.added ∙ one.hangs.added;
        shown = two.hangs.shown ∙ one.hangs.shown;
      };
    }

-- a change of each place changes what is found
pub found_map : (f : Place → Place) → ((place : Place) → HangsAlike place (f place)) → (places : List Place) (nav : NavId) → place_in (map f places) nav ≡ option_map f (place_in places nav)
found_map f hang places nav =
    find_map (λ (place : Place). place.nav.0) f nav.0 places (λ place. ap (λ (n : NavId). n.0) (hang place).nav_is)

-- where each place changes so that it hangs as before
pub there_map : (f : Place → Place) → ((place : Place) → HangsAlike place (f place)) → (places : List Place) → StayThere places (map f places)
there_map f hang places nav place at =
    record {
      then_ = f place;
      at = found_map f hang places nav ∙ ap (λ (o : Option Place). option_map f o) at;
      hangs = hang place;
    }

-- a place more hides none
there_more : (places : List Place) (new : Place) → StayThere places (places ++ new ∷ [])
there_more places new nav place at =
    record {
      then_ = place;
      at = find-append (λ (p : Place). p.nav.0 == nav.0) places (new ∷ []) ∙ rw at refl;
      hangs = same_hangs place;
    }

-- ---- what an applied change does

-- it gives a navigable an entry
given_there : (s : Seen) (req : ReqId) (nav : NavId) (entry : EntryId) → StayThere s.places (places_given s req nav entry)
given_there s req nav entry = by_made (option_and_then (λ (q : Asked). q.made) (request_of s req))
  where
    by_made : (o : Option Made) → StayThere s.places (option_map_or (λ made. on_place nav (given_entry entry) s.places) o s.places)
    by_made None = there_same s.places
    by_made (Some made) =
        there_map (λ (place : Place). cond (place.nav.0 == nav.0) (given_entry entry place) place) (λ place. if_hangs (place.nav.0 == nav.0) place (given_entry entry place) (record { nav_is = refl; above = refl; added = refl; shown = refl })) s.places

-- it adds a navigable
added_there : (s : Seen) (req : ReqId) (owner : StateId) (nav : NavId) → StayThere s.places (places_added s req owner nav)
added_there s req owner nav = by_parent (option_and_then (place_of s) (holder_of owner s.history.rows))
  where
    by_parent : (o : Option Place) → StayThere s.places (option_map_or (λ parent. s.places ++ new_place req nav owner parent ∷ []) o s.places)
    by_parent None = there_same s.places
    by_parent (Some parent) = there_more s.places (new_place req nav owner parent)

-- it takes the last entries of a navigable
taker_there : (old new : History) (req : ReqId) (places : List Place) → StayThere places (with_taker old new req places)
taker_there old new req places =
    there_map (λ (place : Place). cond (has_row place.nav old.rows && not (has_row place.nav new.rows)) (record place { taken_by = Some req }) place) (λ place. if_hangs (has_row place.nav old.rows && not (has_row place.nav new.rows)) place (record place { taken_by = Some req }) (record { nav_is = refl; above = refl; added = refl; shown = refl })) places

-- whichever it is, each place hangs as before
pub applied_there : (s : Seen) (req : ReqId) (change : Change) → StayThere s.places (places_applied s req change)
applied_there s req (changes.Push nav entry state address memo) =
    there_then s.places (places_given s req nav entry) _ (given_there s req nav entry) (taker_there s.history (applied s.history (changes.Push nav entry state address memo)) req (places_given s req nav entry))
applied_there s req (changes.Replace nav over entry state address memo) =
    there_then s.places (places_given s req nav entry) _ (given_there s req nav entry) (taker_there s.history (applied s.history (changes.Replace nav over entry state address memo)) req (places_given s req nav entry))
applied_there s req (changes.AddFrame owner nav entry state) =
    there_then s.places (places_added s req owner nav) _ (added_there s req owner nav) (taker_there s.history (applied s.history (changes.AddFrame owner nav entry state)) req (places_added s req owner nav))
applied_there s req (changes.Reload nav) =
    let marked : List Place = on_place nav (λ place. record place { is_pending = true; is_unmet = true }) s.places in
    there_then s.places marked _ (there_map (λ (place : Place). cond (place.nav.0 == nav.0) (record place { is_pending = true; is_unmet = true }) place) (λ place. if_hangs (place.nav.0 == nav.0) place (record place { is_pending = true; is_unmet = true }) (record { nav_is = refl; above = refl; added = refl; shown = refl })) s.places) (taker_there s.history (applied s.history (changes.Reload nav)) req marked)
applied_there s req (changes.RemoveFrame nav) = taker_there s.history (applied s.history (changes.RemoveFrame nav)) req s.places
applied_there s req (changes.Traverse goal) = taker_there s.history (applied s.history (changes.Traverse goal)) req s.places
applied_there s req changes.Edit = taker_there s.history (applied s.history changes.Edit) req s.places
