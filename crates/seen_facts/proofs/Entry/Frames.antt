-- What is known of entries, over a frame that is added: its first entry is the coordinator's, and its place is new and asleep.
use Rattle.std.proofs.Common.{◌≡◌, ◌⊎◌, inl, inr, ℕ, ◌+◌, ◌≤◌, Bool, true, false, cond, ◌||◌, ◌==◌, List, [], ◌∷◌, ◌++◌, Option, Some, None, refl, sym, ap, ◌∙◌, subst, arith}
use Rattle.std.specs.Prelude.{option_and_then}
use Rattle.std.specs.List.{list_any}
use Rattle.std.specs.Option.{option_map_or}
use Rattle.std.proofs.lemmas.Bool.{eqb-true}
use Rattle.tab_ids.specs.declared.EntryId.{EntryId}
use Rattle.tab_ids.specs.declared.NavId.{NavId}
use Rattle.tab_ids.specs.declared.ReqId.{ReqId}
use Rattle.tab_ids.specs.declared.StateId.{StateId}
use Rattle.log_model.specs.declared.change.Change.{Change}
use Rattle.log_model.specs.declared.change.Change.TheVariants as changes
use Rattle.log_model.specs.declared.made.Made.{Made}
use Rattle.log_model.specs.declared.row.Row.{Row}
use Rattle.log_model.specs.declared.row_kind.Actor.{Actor}
use Rattle.address.specs.Addresses.{blank_text}
use Rattle.log_model.specs.AfterPlaces.{new_place, with_taker}
use Rattle.log_model.specs.History.{applied, first_step, has_row, is_of}
use Rattle.log_model.specs.Once.{next_entry_of}
use Rattle.log_model.specs.Places.{holder_of}
use Rattle.log_model.specs.Seen.{Seen, Place, awake, asleep, place_in, place_of}
use Rattle.seen_facts.specs.Hang.Members.{Has}
use Rattle.seen_facts.proofs.Hang.Members.{has_more}
use Rattle.seen_facts.proofs.Home.Changed.{taker}
use Rattle.seen_laws.proofs.Keyed.{find_has}
use Rattle.seen_facts.specs.Entry.Entries.{AreEntries}
use Rattle.seen_facts.proofs.Entry.Applied.{applied_tooks, applying, taker_leaves}
use Rattle.seen_facts.proofs.Entry.Changes.{left_so}
use Rattle.seen_facts.proofs.Entry.Ends.{IsToEnd}
use Rattle.seen_facts.proofs.Entry.Parts.{LeavesPlace, WasPlace, was_place}
use Rattle.seen_facts.proofs.Entry.Skips.{without_made}
use Rattle.seen_facts.proofs.Entry.Stays.{AllWereShown, HadRows, IsKnownEntry, IsNewEntry, WasShown, some_same}

place_or : (l : List Place) (new : Place) (nav : NavId) (p : Place) → place_in (l ++ new ∷ []) nav ≡ Some p → (place_in l nav ≡ Some p) ⊎ (new ≡ p)
place_or [] new nav p e = inr (only (new.nav.0 == nav.0) e)
  where
    only : (b : Bool) → (let o : Option Place = cond b (Some new) None in o) ≡ Some p → new ≡ p
    only true h = some_same h
    only false h = absurd cc
place_or (x ∷ l) new nav p e = by_test (x.nav.0 == nav.0) (place_or l new nav p) e
  where
    by_test : (b : Bool) → (place_in (l ++ new ∷ []) nav ≡ Some p → (place_in l nav ≡ Some p) ⊎ (new ≡ p)) → cond b (Some x) (place_in (l ++ new ∷ []) nav) ≡ Some p → (cond b (Some x) (place_in l nav) ≡ Some p) ⊎ (new ≡ p)
    by_test true rest h = inl h
    by_test false rest h = rest h

any_other : {A : Type 0} (test : A → Bool) (l : List A) (x : A) → test x ≡ false → list_any test (l ++ x ∷ []) ≡ list_any test l
any_other test [] x e = rw e refl
any_other test (y ∷ l) x e = ap (λ (b : Bool). test y || b) (any_other test l x e)

-- it is as it is when it is new: asleep, and never given an entry
record IsNewPlace (p : Place) : Type 0 where
  status : p.status ≡ asleep
  ever : p.ever_given ≡ []

module _ (hand : List Made) (s : Seen) (event : ℕ) (actor : Actor) (are : AreEntries hand s) (req : ReqId) (end : IsToEnd hand s req) (owner : StateId) (nav : NavId) (state : StateId) (unused : place_of s nav ≡ None) where
  abbrev pub adding : Change
  adding = changes.AddFrame owner nav (next_entry_of s) state

  abbrev pub added : Seen
  added = applying s event actor req adding

  abbrev take : Place → Place
  take = taker s.history (applied s.history adding) req

  abbrev parent : Option Place
  parent = option_and_then (place_of s) (holder_of owner s.history.rows)

  leaves : LeavesPlace take
  leaves = taker_leaves s event actor req adding

  -- a place then was one before, or is the new one
  was : (n : NavId) (p : Place) → place_of added n ≡ Some p → (mid : Place) × (take mid ≡ p) × ((place_of s n ≡ Some mid) ⊎ IsNewPlace mid)
  was n p there = by_parent parent there
    where
      by_mid : (l : List Place) → ((mid : Place) → place_in l n ≡ Some mid → (place_of s n ≡ Some mid) ⊎ IsNewPlace mid) → WasPlace l take n p → (mid : Place) × (take mid ≡ p) × ((place_of s n ≡ Some mid) ⊎ IsNewPlace mid)
      by_mid l either w = (w.before, w.is, either w.before w.there)

      by_new : (x : Place) (mid : Place) → (place_in s.places n ≡ Some mid) ⊎ (new_place req nav owner x ≡ mid) → (place_of s n ≡ Some mid) ⊎ IsNewPlace mid
      by_new x mid (inl old) = inl old
      by_new x mid (inr is) = inr (record { status = ap (λ (y : Place). y.status) (sym is); ever = ap (λ (y : Place). y.ever_given) (sym is) })

      by_parent : (o : Option Place) → place_in (with_taker s.history (applied s.history adding) req (option_map_or (λ (x : Place). s.places ++ new_place req nav owner x ∷ []) o s.places)) n ≡ Some p → (mid : Place) × (take mid ≡ p) × ((place_of s n ≡ Some mid) ⊎ IsNewPlace mid)
      by_parent None at = by_mid s.places (λ mid found. inl found) (was_place s.places take leaves.nav n p at)
      by_parent (Some x) at =
          by_mid (s.places ++ new_place req nav owner x ∷ []) (λ mid found. by_new x mid (place_or s.places (new_place req nav owner x) n mid found)) (was_place (s.places ++ new_place req nav owner x ∷ []) take leaves.nav n p at)

  -- an awake one isn't new
  shown : AllWereShown s added
  shown n p doc there wakes = by_was (was n p there)
    where
      by_was : (mid : Place) × (take mid ≡ p) × ((place_of s n ≡ Some mid) ⊎ IsNewPlace mid) → WasShown s n p
      by_was (mid, is, inl old) =
          record {
            before = mid;
            there = old;
            nav_is = ap (λ (x : Place). x.nav) (sym is) ∙ leaves.nav mid;
            status = leaves.status mid doc (ap (λ (x : Place). x.status) is ∙ wakes) ∙ ap (λ (x : Place). x.status) is;
            given = sym (leaves.given mid) ∙ ap (λ (x : Place). x.given) is;
            epoch = sym (leaves.epoch mid) ∙ ap (λ (x : Place). x.epoch) is;
          }
      by_was (mid, is, inr new) =
          let on : (take mid).status ≡ awake doc = ap (λ (x : Place). x.status) is ∙ wakes in
          let never : asleep ≡ awake doc = sym new.status ∙ leaves.status mid doc on ∙ on in absurd cc

  -- the new row is of no navigable that had a place
  had : HadRows s added
  had n p doc there wakes has = by_was (shown n p doc there wakes)
    where
      by_was : WasShown s n p → has_row p.nav s.history.rows ≡ true
      by_was w = by_test (nav.0 == p.nav.0) refl
        where
          number : p.nav.0 ≡ n.0
          number = ap (λ (x : NavId). x.0) w.nav_is ∙ find_has (λ (x : Place). x.nav.0) n.0 s.places w.before w.there

          by_test : (b : Bool) → (nav.0 == p.nav.0) ≡ b → has_row p.nav s.history.rows ≡ true
          by_test true e =
              let same : nav ≡ n = ap (λ (i : ℕ). let x : NavId = record { 0 = i } in x) (eqb-true nav.0 p.nav.0 e ∙ number) in
              let never : None ≡ Some w.before = sym unused ∙ ap (place_of s) same ∙ w.there in absurd cc
          by_test false e =
              sym (any_other (is_of p.nav) s.history.rows (record { owner = Some owner; nav = nav; entry = next_entry_of s; step = record { 0 = first_step owner s.history.rows }; state = state; address = blank_text; memo = None }) e) ∙ has

  pub added_entries : AreEntries (without_made req hand) added
  added_entries =
      left_so hand s event actor are req end adding tt shown had (let more : s.entries ≤ s.entries + 1 = omega arith in more)
      (record {
        of_rows = λ row there. of_row row (has_more s.history.rows (record { owner = Some owner; nav = nav; entry = next_entry_of s; step = record { 0 = first_step owner s.history.rows }; state = state; address = blank_text; memo = None }) row there);
        givens = λ n p entry there has. inl (given n entry p has (was n p there));
        tooks = λ r q entry there has. inl (applied_tooks s event actor req adding r q entry there has);
      })
    where
      of_row : (row : Row) → Has s.history.rows row ⊎ ((let r : Row = record { owner = Some owner; nav = nav; entry = next_entry_of s; step = record { 0 = first_step owner s.history.rows }; state = state; address = blank_text; memo = None } in r) ≡ row) → IsKnownEntry s row.entry ⊎ IsNewEntry added row.entry
      of_row row (inl old) = inl (inl (record { row = row; there = old; is = refl }))
      of_row row (inr is) =
          inr (subst (λ (r : Row). IsNewEntry added r.entry) is (record { maker = refl; number = (let same : s.entries + 1 ≤ s.entries + 1 = omega arith in same) }))

      given : (n : NavId) (entry : EntryId) (p : Place) → Has p.ever_given entry → (mid : Place) × (take mid ≡ p) × ((place_of s n ≡ Some mid) ⊎ IsNewPlace mid) → IsKnownEntry s entry
      given n entry p has (mid, is, inl old) =
          inr (inl (record { nav = n; place = mid; there = old; has = subst (λ (l : List EntryId). Has l entry) (ap (λ (x : Place). x.ever_given) (sym is) ∙ leaves.ever mid) has }))
      given n entry p has (mid, is, inr new) =
          absurd (subst (λ (l : List EntryId). Has l entry) (ap (λ (x : Place). x.ever_given) (sym is) ∙ leaves.ever mid ∙ new.ever) has)
