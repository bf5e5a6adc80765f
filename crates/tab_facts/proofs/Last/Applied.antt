-- What lasts is kept by each applied change: a push, a replace, a frame added or removed, a traversal and an edit.
use Rattle.seen_facts.proofs.Coord.Unread.{next}
use Rattle.seen_facts.proofs.Doc.Lives.{change_as, change_keeps, takes_in}
use Rattle.tab_facts.proofs.Frame.Applied.{applied_wishes}
use Rattle.tab_facts.proofs.Frame.Changes.{add_none, push_none, remove_none, replace_none}
use Rattle.tab_facts.proofs.Frame.Moves.{applied_moves}
use Rattle.tab_facts.proofs.Frame.Naming.{same_names}
use Rattle.tab_facts.proofs.Frame.Orders.{found_last, on_takers, or_takers, run_shown}
use Rattle.tab_facts.proofs.Frame.Parts.{TakersWere, WasTakenIn, some_same, takers_same}
use Rattle.tab_facts.specs.Frame.Lasting.{AreTakenBare}
use Rattle.tab_facts.specs.FrameTab.Alive.{HasPlace}
use Rattle.seen_facts.proofs.Home.Changed.{taker}
use Rattle.tab_facts.proofs.Last.Parts.{again, docs_map}
use Rattle.tab_facts.specs.Last.Lasting.{AreLasting}
use Rattle.log_model.specs.AfterPlaces.{given_entry, new_place, on_place, places_added, places_applied, places_given, with_taker}
use Rattle.log_model.specs.History.{History, applied, fits, has_row}
use Rattle.log_model.specs.Places.{holder_of}
use Rattle.log_model.specs.Seen.{Asked, Place, Seen, place_in, place_of, request_of}
use Rattle.log_model.specs.declared.change.Change.{Change}
use Rattle.log_model.specs.declared.made.Made.{Made}
use Rattle.log_model.specs.declared.row_kind.Actor.{Actor}
use Rattle.seen_laws.proofs.Keyed.{find_map}
use Rattle.std.proofs.Common.{Bool, List, None, Option, Some, [], ap, cond, false, inl, inr, not, refl, sym, true, ℕ, ◌&&◌, ◌++◌, ◌==◌, ◌∙◌, ◌∷◌, ◌≡◌, ◌⊎◌}
use Rattle.std.specs.Prelude.{option_and_then, option_map}
use Rattle.tab_ids.specs.declared.EntryId.{EntryId}
use Rattle.tab_ids.specs.declared.NavId.{NavId}
use Rattle.tab_ids.specs.declared.ReqId.{ReqId}
use Rattle.tab_ids.specs.declared.StateId.{StateId}
use Rattle.tab_ids.specs.declared.Step.{Step}
use Rattle.seen_facts.proofs.Walk.Placed.{found_nav}
use Rattle.log_model.specs.declared.change.Change.TheVariants as changes
use Rattle.log_model.specs.declared.row_kind.RowKind.TheVariants as rows

-- ---- who took a navigable's last entries

given_takers : (s : Seen) (req : ReqId) (nav : NavId) (entry : EntryId) → TakersWere s.places (places_given s req nav entry)
given_takers s req nav entry =
    or_takers (λ (made : Made). on_place nav (given_entry entry) s.places) (option_and_then (λ (q : Asked). q.made) (request_of s req)) s.places (λ made. on_takers nav (given_entry entry) s.places (λ p. refl) (λ p. refl))

-- nobody took those of a new frame
added_takers : (s : Seen) (req : ReqId) (owner : StateId) (nav : NavId) → TakersWere s.places (places_added s req owner nav)
added_takers s req owner nav =
    or_takers (λ (parent : Place). s.places ++ new_place req nav owner parent ∷ []) (option_and_then (place_of s) (holder_of owner s.history.rows)) s.places
    (λ parent n place by found taken. by_place parent n place by taken (found_last (λ (p : Place). p.nav.0 == n.0) s.places (new_place req nav owner parent) place found))
  where
    by_place : (parent : Place) (n : NavId) (place : Place) (by : ReqId) → place.taken_by ≡ Some by → (place_in s.places n ≡ Some place) ⊎ (new_place req nav owner parent ≡ place) → WasTakenIn s.places n by
    by_place parent n place by taken (inl old) = record { before = place; there = old; taken = taken }
    by_place parent n place by taken (inr own) =
        (let never : None ≡ Some by = ap (λ (p : Place). p.taken_by) own ∙ taken in absurd cc)

module _ (s : Seen) (event : ℕ) (actor : Actor) (is : AreLasting s) (req : ReqId) (change : Change) where
  abbrev applied_then : Seen
  applied_then = next s event actor (rows.Applied req change)

  abbrev new : History
  new = applied s.history change

  -- none without an entry gets one
  abbrev GivesNone : Type 0
  GivesNone = (nav : NavId) → HasPlace s.places nav → has_row nav s.history.rows ≡ false → has_row nav new.rows ≡ false

  -- whose last ones were taken had none before, or has lost them now
  module _ (mid : List Place) (were : TakersWere s.places mid) (gives : GivesNone) (nav : NavId) (place : Place) (by : ReqId) (taken : place.taken_by ≡ Some by) where
    gone : (a b : Bool) → (a && not b) ≡ true → b ≡ false
    gone true true e = absurd cc
    gone true false e = refl
    gone false b e = absurd cc

    by_test : (p : Place) → place_in mid nav ≡ Some p → (b : Bool) → (has_row p.nav s.history.rows && not (has_row p.nav new.rows)) ≡ b → (let q : Place = cond b (record p { taken_by = Some req }) p in q) ≡ place → has_row nav new.rows ≡ false
    by_test p at false e same =
        let w = were nav p by at (ap (λ (x : Place). x.taken_by) same ∙ taken) in
        gives nav (record { place = w.before; found = w.there }) (is.taken nav w.before by w.there w.taken)
    by_test p at true e same =
        ap (λ (n : NavId). has_row n new.rows) (sym (found_nav mid nav p at)) ∙ gone (has_row p.nav s.history.rows) (has_row p.nav new.rows) e

    by_old : (o : Option Place) → place_in mid nav ≡ o → option_map (taker s.history new req) o ≡ Some place → has_row nav new.rows ≡ false
    by_old None e h = absurd cc
    by_old (Some p) e h =
        by_test p e (has_row p.nav s.history.rows && not (has_row p.nav new.rows)) refl (some_same h)

    taker_nav : (p : Place) → (taker s.history new req p).nav.0 ≡ p.nav.0
    taker_nav p = elim (has_row p.nav s.history.rows && not (has_row p.nav new.rows)) as (λ b. (let q : Place = cond b (record p { taken_by = Some req }) p in q).nav.0 ≡ p.nav.0) [ true ↦ refl | false ↦ refl ]

    bare_then : place_in (with_taker s.history new req mid) nav ≡ Some place → has_row nav new.rows ≡ false
    bare_then found =
        by_old (place_in mid nav) refl (sym (find_map (λ (p : Place). p.nav.0) (taker s.history new req) nav.0 mid taker_nav) ∙ found)

  -- from these places, before the taker is noted
  applied_lasting : (mid : List Place) → places_applied s req change ≡ with_taker s.history new req mid → TakersWere s.places mid → GivesNone → AreLasting applied_then
  applied_lasting mid places were gives =
      again s applied_then (docs_map s.documents (takes_in change) (change_keeps change) (λ d shown. run_shown (takes_in change) d (change_as change d).view shown)) (applied_wishes s event actor req change) taken_then (same_names s applied_then refl applied_then.documents) (applied_moves s event actor is.moves req change) is
    where
      taken_then : AreTakenBare applied_then
      taken_then nav place by found taken =
          bare_then mid were gives nav place by taken (ap (λ (l : List Place). place_in l nav) (sym places) ∙ found)

-- ---- the changes

module _ (s : Seen) (event : ℕ) (actor : Actor) (is : AreLasting s) (req : ReqId) where
  abbrev then_ : Change → Seen
  then_ change = next s event actor (rows.Applied req change)

  -- a push fits
  pub pushed_lasting : (nav : NavId) (entry : EntryId) (state : StateId) (address : List ℕ) (memo : Option (List ℕ)) → fits s.history (changes.Push nav entry state address memo) ≡ true → AreLasting (then_ (changes.Push nav entry state address memo))
  pushed_lasting nav entry state address memo fit =
      applied_lasting s event actor is req (changes.Push nav entry state address memo) (places_given s req nav entry) refl (given_takers s req nav entry) (λ other placed none. push_none s.history nav entry state address memo fit other none)

  pub replaced_lasting : (nav : NavId) (over entry : EntryId) (state : StateId) (address : List ℕ) (memo : Option (List ℕ)) → AreLasting (then_ (changes.Replace nav over entry state address memo))
  replaced_lasting nav over entry state address memo =
      applied_lasting s event actor is req (changes.Replace nav over entry state address memo) (places_given s req nav entry) refl (given_takers s req nav entry) (λ other placed none. replace_none s.history nav over entry state address memo other none)

  -- a new frame has no place yet
  pub added_lasting : (owner : StateId) (nav : NavId) (entry : EntryId) (state : StateId) → place_of s nav ≡ None → AreLasting (then_ (changes.AddFrame owner nav entry state))
  added_lasting owner nav entry state absent =
      applied_lasting s event actor is req (changes.AddFrame owner nav entry state) (places_added s req owner nav) refl (added_takers s req owner nav) (add_none s owner nav entry state absent)

  pub removed_lasting : (nav : NavId) → AreLasting (then_ (changes.RemoveFrame nav))
  removed_lasting nav =
      applied_lasting s event actor is req (changes.RemoveFrame nav) s.places refl (takers_same s.places s.places refl) (λ other placed none. remove_none s.history nav other none)

  pub traversed_lasting : (goal : Step) → AreLasting (then_ (changes.Traverse goal))
  traversed_lasting goal =
      applied_lasting s event actor is req (changes.Traverse goal) s.places refl (takers_same s.places s.places refl) (λ other placed none. none)

  pub edited_lasting : AreLasting (then_ changes.Edit)
  edited_lasting =
      applied_lasting s event actor is req changes.Edit s.places refl (takers_same s.places s.places refl) (λ other placed none. none)
