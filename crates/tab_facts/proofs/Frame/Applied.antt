-- What an applied change leaves of what lasts.
use Rattle.seen_facts.proofs.Coord.Unread.{next}
use Rattle.tab_facts.proofs.Frame.Changes.{add_none, push_none, remove_none, replace_none}
use Rattle.tab_facts.proofs.Frame.Orders.{KeepsRuns, both_run, found_last, if_runs, on_takers, or_takers, run_shown, same_runs, unmade_runs}
use Rattle.seen_laws.proofs.Keyed.{find_has as seen_number}
use Rattle.tab_facts.proofs.Frame.Naming.{same_names}
use Rattle.tab_facts.proofs.Frame.Parts.{TakersWere, WasTakenIn, lasting_on, some_same, takers_same}
use Rattle.tab_facts.specs.Frame.Lasting.{IsLasting, wish}
use Rattle.tab_facts.specs.FrameTab.Alive.{AreThere, HasPlace}
use Rattle.log_model.specs.After.{applied_to, ended, told_after_change}
use Rattle.log_model.specs.AfterDocuments.{with_applied}
use Rattle.log_model.specs.AfterPlaces.{given_entry, new_place, on_place, places_added, places_applied, places_given, with_taker}
use Rattle.log_model.specs.AfterRequests.{entries_taken, on_request}
use Rattle.log_model.specs.History.{History, applied, fits, has_row}
use Rattle.log_model.specs.Places.{holder_of}
use Rattle.log_model.specs.Seen.{Asked, Document, Place, Seen, place_in, place_of, request_of}
use Rattle.log_model.specs.declared.change.Change.{Change}
use Rattle.log_model.specs.declared.made.Made.{Made}
use Rattle.log_model.specs.declared.row_kind.Actor.{Actor}
use Rattle.seen_facts.proofs.Request.Readers.{SameReads, on_read, reads_then}
use Rattle.seen_laws.proofs.Keyed.{find_map}
use Rattle.std.proofs.Common.{Bool, List, None, Option, Some, [], ap, cond, false, inl, inr, not, refl, sym, true, ℕ, ◌&&◌, ◌++◌, ◌==◌, ◌∙◌, ◌∷◌, ◌≡◌, ◌⊎◌}
use Rattle.std.specs.Prelude.{option_and_then, option_map}
use Rattle.tab_ids.specs.declared.EntryId.{EntryId}
use Rattle.tab_ids.specs.declared.NavId.{NavId}
use Rattle.tab_ids.specs.declared.ProcId.{ProcId}
use Rattle.tab_ids.specs.declared.ReqId.{ReqId}
use Rattle.tab_ids.specs.declared.StateId.{StateId}
use Rattle.tab_ids.specs.declared.Step.{Step}
use Rattle.log_model.specs.declared.change.Change.TheVariants as changes
use Rattle.log_model.specs.declared.outcome.Ending.TheVariants as endings
use Rattle.log_model.specs.declared.row_kind.RowKind.TheVariants as rows

-- ---- documents

told_runs : (c : Change) → KeepsRuns (λ (x : Document). told_after_change x c)
told_runs (changes.Push nav entry state address memo) =
    if_runs (λ (x : Document). x.nr.0 == entry.maker) (λ (x : Document). record x { told = None }) (record { nr = λ x. refl; nav = λ x. refl; state = λ x. refl; view = λ x. refl; discarded = λ x. refl; unready = λ x e. e })
told_runs (changes.Replace nav over entry state address memo) = same_runs
told_runs (changes.AddFrame owner nav entry state) = same_runs
told_runs (changes.RemoveFrame nav) = same_runs
told_runs (changes.Traverse goal) = same_runs
told_runs (changes.Reload nav) = same_runs
told_runs changes.Edit = same_runs

entry_runs : (entry : EntryId) → KeepsRuns (with_applied entry)
entry_runs entry =
    if_runs (λ (x : Document). x.nr.0 == entry.maker) (λ (x : Document). record x { last_applied = entry.nr }) (record { nr = λ x. refl; nav = λ x. refl; state = λ x. refl; view = λ x. refl; discarded = λ x. refl; unready = λ x e. e })

applied_runs : (c : Change) → KeepsRuns (λ (x : Document). applied_to c x)
applied_runs (changes.Push nav entry state address memo) = entry_runs entry
applied_runs (changes.Replace nav over entry state address memo) = entry_runs entry
applied_runs (changes.Reload nav) =
    if_runs (λ (x : Document). x.nav.0 == nav.0) (λ (x : Document). record x { is_fresh = false }) (record { nr = λ x. refl; nav = λ x. refl; state = λ x. refl; view = λ x. refl; discarded = λ x. refl; unready = λ x e. e })
applied_runs (changes.AddFrame owner nav entry state) = same_runs
applied_runs (changes.RemoveFrame nav) = same_runs
applied_runs (changes.Traverse goal) = same_runs
applied_runs changes.Edit = same_runs

-- ---- requests

pub applied_wishes : (s : Seen) (event : ℕ) (actor : Actor) (req : ReqId) (change : Change) → SameReads wish s.requests (next s event actor (rows.Applied req change)).requests
applied_wishes s event actor req change =
    reads_then wish s.requests (ended s.requests req endings.Applied) _ (on_read wish s.requests req (λ q. record q { ending = Some endings.Applied }) (λ q. refl))
    (reads_then wish (ended s.requests req endings.Applied) (on_request req (λ q. record q { change = Some change }) (ended s.requests req endings.Applied)) _ (on_read wish (ended s.requests req endings.Applied) req (λ q. record q { change = Some change }) (λ q. refl))
    (on_read wish (on_request req (λ q. record q { change = Some change }) (ended s.requests req endings.Applied)) req (λ q. record q { took = entries_taken s.history change }) (λ q. refl)))

-- ---- places

number_of : (places : List Place) (nav : NavId) (p : Place) → place_in places nav ≡ Some p → p.nav ≡ nav
number_of places nav p at =
    ap (λ (n : ℕ). let x : NavId = record { 0 = n } in x) (seen_number (λ (x : Place). x.nav.0) nav.0 places p at)

-- a navigable's place, with those before the change noted: its last entries were taken before, or have gone now
taken_now : (s : Seen) (new : History) (req : ReqId) (places : List Place) → TakersWere s.places places → (nav : NavId) (place : Place) (by : ReqId) → place_in (with_taker s.history new req places) nav ≡ Some place → place.taken_by ≡ Some by → WasTakenIn s.places nav by ⊎ (has_row nav new.rows ≡ false)
taken_now s new req places were nav place by found taken =
    by_old (place_in places nav) refl (sym (find_map (λ (p : Place). p.nav.0) noted nav.0 places (λ p. elim (lost p) as (λ b. (let y : Place = cond b (record p { taken_by = Some req }) p in y).nav.0 ≡ p.nav.0) [ true ↦ refl | false ↦ refl ])) ∙ found)
  where
    lost : Place → Bool
    lost p = has_row p.nav s.history.rows && not (has_row p.nav new.rows)

    noted : Place → Place
    noted p = cond (has_row p.nav s.history.rows && not (has_row p.nav new.rows)) (record p { taken_by = Some req }) p

    gone : (a b : Bool) → (a && not b) ≡ true → b ≡ false
    gone true true e = absurd cc
    gone true false e = refl
    gone false b e = absurd cc

    by_test : (p : Place) → place_in places nav ≡ Some p → (b : Bool) → lost p ≡ b → (let y : Place = cond b (record p { taken_by = Some req }) p in y) ≡ place → WasTakenIn s.places nav by ⊎ (has_row nav new.rows ≡ false)
    by_test p at false e is = inl (were nav p by at (ap (λ (x : Place). x.taken_by) is ∙ taken))
    by_test p at true e is =
        inr (ap (λ (n : NavId). has_row n new.rows) (sym (number_of places nav p at)) ∙ gone (has_row p.nav s.history.rows) (has_row p.nav new.rows) e)

    by_old : (o : Option Place) → place_in places nav ≡ o → option_map noted o ≡ Some place → WasTakenIn s.places nav by ⊎ (has_row nav new.rows ≡ false)
    by_old None e h = absurd cc
    by_old (Some p) e h = by_test p e (lost p) refl (some_same h)

given_takers : (s : Seen) (req : ReqId) (nav : NavId) (entry : EntryId) → TakersWere s.places (places_given s req nav entry)
given_takers s req nav entry =
    or_takers (λ (made : Made). on_place nav (given_entry entry) s.places) (option_and_then (λ (q : Asked). q.made) (request_of s req)) s.places (λ made. on_takers nav (given_entry entry) s.places (λ p. refl) (λ p. refl))

added_takers : (s : Seen) (req : ReqId) (owner : StateId) (nav : NavId) → TakersWere s.places (places_added s req owner nav)
added_takers s req owner nav =
    or_takers (λ (parent : Place). s.places ++ new_place req nav owner parent ∷ []) (option_and_then (place_of s) (holder_of owner s.history.rows)) s.places
    (λ parent n place by found taken. by_place parent n place by taken (found_last (λ (p : Place). p.nav.0 == n.0) s.places (new_place req nav owner parent) place found))
  where
    by_place : (parent : Place) (n : NavId) (place : Place) (by : ReqId) → place.taken_by ≡ Some by → (place_in s.places n ≡ Some place) ⊎ (new_place req nav owner parent ≡ place) → WasTakenIn s.places n by
    by_place parent n place by taken (inl old) = record { before = place; there = old; taken = taken }
    by_place parent n place by taken (inr new) = (let never : None ≡ Some by = ap (λ (p : Place). p.taken_by) new ∙ taken in absurd cc)

-- ---- the row

module _ (home : ProcId) (s : Seen) (event : ℕ) (actor : Actor) (there : AreThere home s) (req : ReqId) (change : Change) where
  -- whoever has no entry gets none, and whose last ones were taken is noted
  applied_lasting : ((nav : NavId) → HasPlace s.places nav → has_row nav s.history.rows ≡ false → has_row nav (applied s.history change).rows ≡ false) → ((nav : NavId) (place : Place) (by : ReqId) → place_in (places_applied s req change) nav ≡ Some place → place.taken_by ≡ Some by → WasTakenIn s.places nav by ⊎ (has_row nav (applied s.history change).rows ≡ false)) → IsLasting s → IsLasting (next s event actor (rows.Applied req change))
  applied_lasting bare takers =
      lasting_on home s (next s event actor (rows.Applied req change)) (λ (x : Document). applied_to change (told_after_change x change)) there (record {
        documents = refl;
        nr = keeps.nr;
        nav = keeps.nav;
        state = keeps.state;
        undone = λ x there_. sym (keeps.discarded x) ∙ there_;
        unmade = λ doc x found kept. unmade_runs (λ (y : Document). applied_to change (told_after_change y change)) keeps x kept;
        names = same_names s (next s event actor (rows.Applied req change)) refl;
        runs = λ doc x found shown. run_shown (λ (y : Document). applied_to change (told_after_change y change)) x (keeps.view x) shown;
        gone = λ doc x found gone. inl (sym (keeps.discarded x) ∙ gone);
        wishes = applied_wishes s event actor req change;
        bare = bare;
        takers = takers;
      })
    where
      keeps : KeepsRuns (λ (x : Document). applied_to change (told_after_change x change))
      keeps = both_run (λ (x : Document). told_after_change x change) (λ (x : Document). applied_to change x) (told_runs change) (applied_runs change)

module _ (home : ProcId) (s : Seen) (event : ℕ) (actor : Actor) (there : AreThere home s) (req : ReqId) where
  pub pushed_lasting : (nav : NavId) (entry : EntryId) (state : StateId) (address : List ℕ) (memo : Option (List ℕ)) → fits s.history (changes.Push nav entry state address memo) ≡ true → IsLasting s → IsLasting (next s event actor (rows.Applied req (changes.Push nav entry state address memo)))
  pushed_lasting nav entry state address memo fit =
      applied_lasting home s event actor there req (changes.Push nav entry state address memo) (λ other placed none. push_none s.history nav entry state address memo fit other none) (taken_now s (applied s.history (changes.Push nav entry state address memo)) req (places_given s req nav entry) (given_takers s req nav entry))

  pub replaced_lasting : (nav : NavId) (over entry : EntryId) (state : StateId) (address : List ℕ) (memo : Option (List ℕ)) → IsLasting s → IsLasting (next s event actor (rows.Applied req (changes.Replace nav over entry state address memo)))
  replaced_lasting nav over entry state address memo =
      applied_lasting home s event actor there req (changes.Replace nav over entry state address memo) (λ other placed none. replace_none s.history nav over entry state address memo other none) (taken_now s (applied s.history (changes.Replace nav over entry state address memo)) req (places_given s req nav entry) (given_takers s req nav entry))

  pub added_lasting : (owner : StateId) (nav : NavId) (entry : EntryId) (state : StateId) → place_of s nav ≡ None → IsLasting s → IsLasting (next s event actor (rows.Applied req (changes.AddFrame owner nav entry state)))
  added_lasting owner nav entry state new =
      applied_lasting home s event actor there req (changes.AddFrame owner nav entry state) (λ other placed none. add_none s owner nav entry state new other placed none) (taken_now s (applied s.history (changes.AddFrame owner nav entry state)) req (places_added s req owner nav) (added_takers s req owner nav))

  pub removed_lasting : (nav : NavId) → IsLasting s → IsLasting (next s event actor (rows.Applied req (changes.RemoveFrame nav)))
  removed_lasting nav =
      applied_lasting home s event actor there req (changes.RemoveFrame nav) (λ other placed none. remove_none s.history nav other none) (taken_now s (applied s.history (changes.RemoveFrame nav)) req s.places (takers_same s.places s.places refl))

  pub traversed_lasting : (goal : Step) → IsLasting s → IsLasting (next s event actor (rows.Applied req (changes.Traverse goal)))
  traversed_lasting goal =
      applied_lasting home s event actor there req (changes.Traverse goal) (λ other placed none. none) (taken_now s (applied s.history (changes.Traverse goal)) req s.places (takers_same s.places s.places refl))
