-- All that holds of a tab between two rows holds after a frame is added: its navigable is new and asleep, and its entry and its document state are the coordinator's next.
use Rattle.seen_facts.proofs.Asked.Rows.{applied_plain}
use Rattle.seen_facts.proofs.Coord.Applied.{WereThere}
use Rattle.seen_facts.proofs.Coord.EachDocuments.{HadEpoch}
use Rattle.seen_facts.proofs.Coord.Given.{was_kept}
use Rattle.seen_facts.proofs.Coord.Leadings.{WasAwake}
use Rattle.seen_facts.proofs.Coord.Unread.{next}
use Rattle.seen_facts.specs.Each.Runs.{is_this}
use Rattle.seen_facts.proofs.Entry.Applied.{applied_ends}
use Rattle.seen_facts.proofs.Entry.Ends.{IsToEnd}
use Rattle.seen_facts.proofs.Entry.Frames.{added_entries}
use Rattle.seen_facts.proofs.Entry.Skips.{without_made}
use Rattle.tab_facts.proofs.FrameWhole.Queued.{queued_after}
use Rattle.tab_facts.proofs.FrameWhole.Soundly.{none_entry, sound_added}
use Rattle.tab_facts.specs.FrameWhole.Untold.{FlowsIf}
use Rattle.seen_facts.proofs.Hang.Forms.{IsPlaceOf, form_there, nav_is, place_there}
use Rattle.seen_facts.proofs.Hang.Members.{Passing, any_has, has_any, has_more, slice_has}
use Rattle.seen_facts.specs.Hang.Forms.{form_of, forms_of}
use Rattle.seen_facts.specs.Hang.Hanging.{IsPlaced}
use Rattle.seen_facts.specs.Hang.Members.{Has}
use Rattle.seen_facts.proofs.Home.Changed.{added_homed}
use Rattle.log_model.specs.AfterPlaces.{new_place, places_added}
use Rattle.log_model.specs.AfterRequests.{without_req}
use Rattle.address.specs.Addresses.{blank_text}
use Rattle.log_model.specs.History.{applied, first_step, fits, has_nav, has_row, has_state, is_of}
use Rattle.log_model.specs.Once.{next_entry_of, next_state}
use Rattle.log_model.specs.Places.{holder_of}
use Rattle.log_model.specs.Seen.{Asked, Document, Place, Seen, asleep, awake, document_of, place_in, place_of, request_of}
use Rattle.log_model.specs.declared.change.Change.{Change}
use Rattle.log_model.specs.declared.change.Change.TheVariants as changes
use Rattle.log_model.specs.declared.made.Made.{Made}
use Rattle.log_model.specs.declared.row.Row.{Row}
use Rattle.log_model.specs.declared.row_kind.Actor.{Actor}
use Rattle.log_model.specs.declared.row_kind.RowKind.TheVariants as rows
use Rattle.seen_facts.proofs.Place.Adding.{absent_ungiven, added_standing}
use Rattle.seen_facts.proofs.Rest.Stands.{get_of}
use Rattle.std.proofs.Common.{Bool, List, None, Option, Some, [], ap, arith, cond, false, inl, inr, map, not, refl, subst, sym, true, ℕ, ◌&&◌, ◌++◌, ◌==◌, ◌≤◌, ◌∙◌, ◌∷◌, ◌≡◌, ◌⊎◌}
use Rattle.std.specs.Option.{option_map_or}
use Rattle.std.specs.Prelude.{find, option_and_then, slice_get}
use Rattle.tab_ids.specs.declared.DocId.{DocId}
use Rattle.tab_ids.specs.declared.Epoch.{Epoch}
use Rattle.tab_ids.specs.declared.NavId.{NavId}
use Rattle.tab_ids.specs.declared.ReqId.{ReqId}
use Rattle.tab_ids.specs.declared.StateId.{StateId}
use Rattle.tab_facts.proofs.TabWhole.Changed.{changed_tab}
use Rattle.tab_facts.proofs.TabWhole.Fresh.{fresh, new_state, new_to, ungiven}
use Rattle.tab_facts.proofs.TabWhole.Unmoved.{end_skips, unmoved_if}
use Rattle.tab_facts.proofs.TabWhole.Where.{IsCarried}
use Rattle.tab_facts.specs.TabWhole.Tab.{IsTab}
use Rattle.seen_facts.proofs.Walk.Placed.{found_nav}

some_same : {A : Type 0} {a b : A} → (let o : Option A = Some a in o) ≡ Some b → a ≡ b
some_same e = cc

map_itself : (documents : List Document) → map (λ (d : Document). d) documents ≡ documents
map_itself [] = refl
map_itself (d ∷ documents) = ap (λ (l : List Document). d ∷ l) (map_itself documents)

-- the old place, or the last one where there was none
last_or : (l : List Place) (new p : Place) (n : NavId) → place_in (l ++ new ∷ []) n ≡ Some p → (place_in l n ≡ Some p) ⊎ ((new ≡ p) × (place_in l n ≡ None))
last_or [] new p n e = by_test (new.nav.0 == n.0) e
  where
    by_test : (b : Bool) → (let o : Option Place = cond b (Some new) None in o) ≡ Some p → (place_in [] n ≡ Some p) ⊎ ((new ≡ p) × (place_in [] n ≡ None))
    by_test true h = inr (some_same h, refl)
    by_test false h = absurd cc
last_or (x ∷ l) new p n e = by_test (x.nav.0 == n.0) (last_or l new p n) e
  where
    by_test : (b : Bool) → (place_in (l ++ new ∷ []) n ≡ Some p → (place_in l n ≡ Some p) ⊎ ((new ≡ p) × (place_in l n ≡ None))) → cond b (Some x) (place_in (l ++ new ∷ []) n) ≡ Some p → (cond b (Some x) (place_in l n) ≡ Some p) ⊎ ((new ≡ p) × (cond b (Some x) (place_in l n) ≡ None))
    by_test true rest h = inl h
    by_test false rest h = rest h

-- the place was there, or it is new and asleep
abbrev IsOldOrAsleep : Seen → NavId → Place → Type 0
IsOldOrAsleep s n p = (place_of s n ≡ Some p) ⊎ ((p.status ≡ asleep) × (place_of s n ≡ None))

added_or : (s : Seen) (req : ReqId) (owner : StateId) (nav n : NavId) (p : Place) → place_in (places_added s req owner nav) n ≡ Some p → IsOldOrAsleep s n p
added_or s req owner nav n p found = by_parent (option_and_then (place_of s) (holder_of owner s.history.rows)) found
  where
    by_last : (parent : Place) → (place_in s.places n ≡ Some p) ⊎ ((new_place req nav owner parent ≡ p) × (place_in s.places n ≡ None)) → IsOldOrAsleep s n p
    by_last parent (inl old) = inl old
    by_last parent (inr is) = inr (ap (λ (x : Place). x.status) (sym is.0), is.1)

    by_parent : (o : Option Place) → place_in (option_map_or (λ (parent : Place). s.places ++ new_place req nav owner parent ∷ []) o s.places) n ≡ Some p → IsOldOrAsleep s n p
    by_parent None h = inl h
    by_parent (Some parent) h = by_last parent (last_or s.places (new_place req nav owner parent) p n h)

module _ (run : Option ReqId) (loads : List ReqId) (hand : List Made) (s : Seen) (event : ℕ) (actor : Actor) (tab : IsTab run loads hand s) (req : ReqId) (q : Asked) (there : request_of s req ≡ Some q) (unended : q.ending ≡ None) (other : is_this run req ≡ false) (carried : IsCarried loads hand s req) (end : IsToEnd hand s req) (owner : StateId) (nav : NavId) (fit : fits s.history (changes.AddFrame owner nav (next_entry_of s) (next_state s)) ≡ true) where
  abbrev change : Change
  change = changes.AddFrame owner nav (next_entry_of s) (next_state s)

  abbrev pub added : Seen
  added = next s event actor (rows.Applied req (changes.AddFrame owner nav (next_entry_of s) (next_state s)))

  abbrev frame_row : Row
  frame_row = record { owner = Some owner; nav = nav; entry = next_entry_of s; step = record { 0 = first_step owner s.history.rows }; state = next_state s; address = blank_text; memo = None }

  fit_parts : (has_state owner s.history.rows ≡ true) × ((nav.0 == 0) ≡ false) × (has_nav s.history.added nav ≡ false)
  fit_parts = by_parts (has_state owner s.history.rows) (nav.0 == 0) (has_nav s.history.added nav) fit
    where
      by_parts : (a b c : Bool) → (a && not b && not c) ≡ true → (a ≡ true) × (b ≡ false) × (c ≡ false)
      by_parts true false false e = (refl, refl, refl)
      by_parts true false true e = absurd cc
      by_parts true true c e = absurd cc
      by_parts false b c e = absurd cc

  -- the navigable has no place
  unused : place_of s nav ≡ None
  unused = by_place (place_of s nav) refl
    where
      known_not : (number : ℕ) → number ≡ nav.0 → (number ≡ 0) ⊎ (has_nav s.history.added (record { 0 = number }) ≡ true) → ⊥
      known_not number same (inl zero_) =
          let is : (nav.0 == 0) ≡ true = rw (sym same ∙ zero_) refl in
          let never : true ≡ false = sym is ∙ fit_parts.1 in cc
      known_not number same (inr known) =
          let never : true ≡ false = sym known ∙ ap (λ (n : ℕ). has_nav s.history.added (record { 0 = n })) same ∙ fit_parts.2 in cc

      by_place : (o : Option Place) → place_of s nav ≡ o → place_of s nav ≡ None
      by_place None e = e
      by_place (Some p) e =
          absurd (known_not p.nav.0 (ap (λ (n : NavId). n.0) (found_nav s.places nav p e)) (tab.hangs.woven.each nav (form_of p) (form_there s.places nav p e)).known)

  bare : has_row nav s.history.rows ≡ false
  bare = by_test (has_row nav s.history.rows) refl
    where
      by_test : (b : Bool) → has_row nav s.history.rows ≡ b → b ≡ false
      by_test false e = refl
      by_test true e =
          let a : Passing (is_of nav) s.history.rows = any_has (is_of nav) s.history.rows e in
          let placed : IsPlaced (forms_of s.places) a.it = tab.hangs.rows.placed a.it a.there in
          let at : IsPlaceOf s.places a.it.nav placed.form = place_there s.places a.it.nav placed.form placed.found in
          let never : None ≡ Some at.place = sym unused ∙ (ap (λ (n : NavId). place_of s n) (sym (nav_is a.it.nav nav a.passes)) ∙ at.found) in absurd cc

  -- ---- what leads on

  old_place : (of : NavId) (place : Place) (doc : DocId) → place_of added of ≡ Some place → place.status ≡ awake doc → WasAwake s of place
  old_place of place doc placed wakes = by_case (added_or s req owner nav of was.0 was.1)
    where
      was : (before : Place) × (place_in (places_added s req owner nav) of ≡ Some before) × (before.status ≡ place.status) × (before.given ≡ place.given) × (before.epoch ≡ place.epoch)
      was =
          was_kept s.history (applied s.history (changes.AddFrame owner nav (next_entry_of s) (next_state s))) req (places_added s req owner nav) of place placed

      by_case : IsOldOrAsleep s of was.0 → WasAwake s of place
      by_case (inl old) = record { before = was.0; there = old; status = was.2; given = was.3; epoch = was.4 }
      by_case (inr new) = (let never : asleep ≡ awake doc = sym new.0 ∙ was.2 ∙ wakes in absurd cc)

  had : (doc : DocId) (d : Document) (place : Place) → document_of s doc ≡ Some d → place_of added d.nav ≡ Some place → HadEpoch s d.nav place
  had doc d place found placed = by_case (added_or s req owner nav d.nav was.0 was.1)
    where
      was : (before : Place) × (place_in (places_added s req owner nav) d.nav ≡ Some before) × (before.status ≡ place.status) × (before.given ≡ place.given) × (before.epoch ≡ place.epoch)
      was =
          was_kept s.history (applied s.history (changes.AddFrame owner nav (next_entry_of s) (next_state s))) req (places_added s req owner nav) d.nav place placed

      by_case : IsOldOrAsleep s d.nav was.0 → HadEpoch s d.nav place
      by_case (inl old) =
          record { before = was.0; there = old; rises = subst (λ (k : Epoch). was.0.epoch.0 ≤ k.0) was.4 (omega arith) }
      by_case (inr new) =
          let at = (tab.docs.each doc d found).placed in
          let never : None ≡ Some at.place = sym new.1 ∙ at.found in absurd cc

  had_row : (of : NavId) (place : Place) → place_of s of ≡ Some place → has_row place.nav added.history.rows ≡ true → has_row place.nav s.history.rows ≡ true
  had_row of place placed has = by_case (has_more s.history.rows frame_row a.it a.there)
    where
      a : Passing (is_of place.nav) (s.history.rows ++ frame_row ∷ [])
      a = any_has (is_of place.nav) (s.history.rows ++ frame_row ∷ []) has

      by_case : Has s.history.rows a.it ⊎ (frame_row ≡ a.it) → has_row place.nav s.history.rows ≡ true
      by_case (inl old) = has_any (is_of place.nav) s.history.rows a.it old a.passes
      by_case (inr new) =
          let same : nav ≡ of = ap (λ (r : Row). r.nav) new ∙ nav_is a.it.nav place.nav a.passes ∙ found_nav s.places of place placed in
          let never : None ≡ Some place = sym unused ∙ (ap (λ (n : NavId). place_of s n) same ∙ placed) in absurd cc

  were : (of : NavId) (place : Place) → place_of s of ≡ Some place → WereThere s.history.rows added.history.rows place.given
  were of place placed i row at given =
      by_case (has_more s.history.rows frame_row row (slice_has added.history.rows i row at))
    where
      by_case : Has s.history.rows row ⊎ (frame_row ≡ row) → (j : ℕ) × (slice_get s.history.rows j ≡ Some row)
      by_case (inl old) = get_of s.history.rows row old
      by_case (inr new) =
          absurd (ungiven run loads hand s tab of place placed (given ∙ ap (λ (r : Row). Some r.entry) (sym new)))

  flows : FlowsIf (without_made req hand) added
  flows =
      unmoved_if hand (without_made req hand) s added (record {
        desks = refl;
        documents = λ doc d found. ap (λ (l : List Document). find (λ (x : Document). x.nr.0 == doc.0) l) (sym (map_itself s.documents)) ∙ found;
        awakes = old_place;
        had = had;
        had_row = λ of place doc placed wakes. had_row of place placed;
        were = λ of place doc placed wakes. were of place placed;
        skips = end_skips hand s added req end (applied_ends s event actor req change).made refl;
      }) tab.flows

  pub added_tab : IsTab run (without_req req loads) (without_made req hand) added
  added_tab =
      changed_tab run run loads hand s event actor req change tab
      (record {
        unended = λ x at. (let both : Some q ≡ Some x = sym there ∙ at in let one : q ≡ x = cc in subst (λ (y : Asked). y.ending ≡ None) one unended);
        carried = carried;
        fit = fit;
        sound = sound_added s.history owner nav (next_entry_of s) (next_state s) tab.sound fit_parts.0 fit_parts.1 bare (none_entry s.history.rows (next_entry_of s) (fresh run loads hand s tab)) (λ row has same. new_state run loads hand s tab row has (ap (λ (x : StateId). x.0) same));
        brings = new_state run loads hand s tab;
        owned = λ doc d found same. absurd (new_to run loads hand s tab doc d found same);
        free = refl;
        homes = added_homed s event actor req tab.homes owner nav (next_entry_of s) (next_state s) unused;
        standing = added_standing s event actor tab.standing req owner nav (next_entry_of s) (next_state s) (record { q = q; found = there }) (absent_ungiven s nav (next_entry_of s) unused);
        asked = applied_plain run s event actor tab.asked req change other;
        queued = queued_after run s event actor tab.queued (rows.Applied req change) other;
        entries = added_entries hand s event actor tab.entries req end owner nav (next_state s) unused;
        flows = flows;
      })
