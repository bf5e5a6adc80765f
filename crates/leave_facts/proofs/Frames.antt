-- As a frame is removed or added, whom requests leave was asked for them still.
use Rattle.std.proofs.Common.{◌≡◌, ◌⊎◌, inl, inr, ℕ, Bool, true, false, not, ◌&&◌, ◌||◌, ◌==◌, List, [], ◌∷◌, ◌++◌, Option, Some, None, refl, sym, ap, ◌∙◌, arith}
use Rattle.std.specs.Prelude.{filter, nat_le, option_and_then}
use Rattle.std.specs.Option.{option_map_or}
use Rattle.std.proofs.lemmas.Bool.{and_parts}
use Rattle.std.proofs.lemmas.Bool.Decides.{nat_tests}
use Rattle.tab_ids.specs.declared.DocId.{DocId}
use Rattle.tab_ids.specs.declared.EntryId.{EntryId}
use Rattle.tab_ids.specs.declared.NavId.{NavId}
use Rattle.tab_ids.specs.declared.ReqId.{ReqId}
use Rattle.tab_ids.specs.declared.StateId.{StateId}
use Rattle.address.specs.Addresses.{blank_text}
use Rattle.log_model.specs.declared.change.Change.TheVariants as changes
use Rattle.log_model.specs.declared.row.Row.{Row}
use Rattle.log_model.specs.declared.row_kind.Actor.{Actor}
use Rattle.log_model.specs.AfterPlaces.{new_place, places_added}
use Rattle.log_model.specs.Equal.{holds}
use Rattle.log_model.specs.History.{applied, first_step, has_nav, has_row, has_state, is_of, tidied}
use Rattle.log_model.specs.Places.{holder_of}
use Rattle.log_model.specs.Seen.{Document, Place, Seen, document_of, place_of}
use Rattle.seen_facts.proofs.Hang.Forms.{form_found, form_other, form_there, forms_joined, nav_is}
use Rattle.seen_facts.proofs.Hang.Frames.{applied_kept, taken_kept}
use Rattle.seen_facts.proofs.Hang.Members.{Passing, any_has, has_filter, has_tidied}
use Rattle.seen_facts.specs.Doc.Docs.{HasPlace}
use Rattle.seen_facts.specs.Hang.Forms.{Form, form_in, form_of, forms_of}
use Rattle.seen_facts.specs.Hang.Hanging.{IsPlaced}
use Rattle.leave_facts.specs.Leaving.{AreAsked, BelowAsked}
use Rattle.leave_facts.proofs.Applied.{FitsWell, changed, documents_then, hangs_then, places_then, requests_then, rows_then}
use Rattle.leave_facts.proofs.Below.{below_stays}
use Rattle.leave_facts.proofs.Rows.{was_place}
use Rattle.leave_facts.proofs.Shown.{HangAlike, TargetsAlike, form_hangs, forms_hang, shown_row, steps_alike}
use Rattle.leave_facts.proofs.Stays.{PlacesStay, RowsStay, StepsStay, asked_stays}
use Rattle.leave_facts.proofs.Targets.{stays_used, target_more, target_part}

apart_is : (b : Bool) → not b ≡ true → b ≡ false
apart_is true e = cc
apart_is false e = refl

-- ---- a frame is removed

module _ (s : Seen) (event : ℕ) (actor : Actor) (req : ReqId) (nav : NavId) (well : FitsWell s (changes.RemoveFrame nav)) where
  abbrev removed : Seen
  removed = changed s event actor req (changes.RemoveFrame nav)

  abbrev other : Row → Bool
  other row = not (is_of nav row)

  -- who has an entry then is another one
  removed_apart : (x : NavId) → has_row x removed.history.rows ≡ true → (x.0 == nav.0) ≡ false
  removed_apart x has =
      let a : Passing (is_of x) (tidied (filter other s.history.rows)) = any_has (is_of x) (tidied (filter other s.history.rows)) has in
      let is : other a.it ≡ true = (has_filter other s.history.rows a.it (has_tidied (filter other s.history.rows) a.it a.there).0).1 in
      ap (λ (n : NavId). n.0 == nav.0) (sym (nav_is a.it.nav x a.passes)) ∙ apart_is (is_of nav a.it) is

  removed_targets : (step : ℕ) → TargetsAlike s removed step step
  removed_targets step =
      record {
        each = λ x has shown st is.
            ap (λ (o : Option Row). holds (λ (row : Row). row.state.0 == st.0) o) (target_part (forms_of s.places) s.history well.sound well.hangs.rows other x step has (λ row there its up. passes x has row its)) ∙ is;
      }
    where
      passes : (x : NavId) → has_row x removed.history.rows ≡ true → (row : Row) → is_of x row ≡ true → other row ≡ true
      passes x has row its =
          ap (λ (b : Bool). not b) (ap (λ (n : NavId). n.0 == nav.0) (nav_is row.nav x its) ∙ removed_apart x has)

  removed_steps : StepsStay s removed
  removed_steps =
      steps_alike s removed well.sound well.hangs well.then_sound (hangs_then s event actor req (changes.RemoveFrame nav) well) (forms_hang s removed (applied_kept s req (changes.RemoveFrame nav) tt))
      (record { targets = removed_targets; current = λ x st. stays_used removed.history.rows s.history.current x st })

  -- whom requests leave was asked for them still
  pub remove_asked : AreAsked s → AreAsked removed
  remove_asked asked =
      asked_stays s removed (requests_then s event actor req (changes.RemoveFrame nav)) (documents_then s event actor req (changes.RemoveFrame nav)) (places_then s event actor req (changes.RemoveFrame nav) tt) (rows_then s event actor req (changes.RemoveFrame nav) tt well.fit) removed_steps asked

-- ---- a frame is added

-- no document is of the navigable
pub record IsNobodys (s : Seen) (nav : NavId) : Type 0 where
  pub each : (doc : DocId) (d : Document) → document_of s doc ≡ Some d → (d.nav.0 == nav.0) ≡ false

module _ (s : Seen) (event : ℕ) (actor : Actor) (req : ReqId) (owner : StateId) (nav : NavId) (entry : EntryId) (state : StateId) (well : FitsWell s (changes.AddFrame owner nav entry state)) where
  abbrev added : Seen
  added = changed s event actor req (changes.AddFrame owner nav entry state)

  abbrev new : Row
  new =
      record {
        owner = Some owner;
        nav = nav;
        entry = entry;
        step = record { 0 = first_step owner s.history.rows };
        state = state;
        address = blank_text;
        memo = None;
      }

  -- the navigable has no place yet
  no_form : (form : Form) → form_in (forms_of s.places) nav ≡ Some form → ⊥
  no_form form found =
      known_not (form_found (forms_of s.places) nav form found) (well.hangs.woven.each nav form found).known
    where
      parts : ((has_state owner s.history.rows && not (nav.0 == 0)) ≡ true) × (not (has_nav s.history.added nav) ≡ true)
      parts = and_parts (has_state owner s.history.rows && not (nav.0 == 0)) (not (has_nav s.history.added nav)) well.fit

      child : (nav.0 == 0) ≡ false
      child =
          apart_is (nav.0 == 0) (and_parts (has_state owner s.history.rows) (not (nav.0 == 0)) parts.0).1

      unused : has_nav s.history.added nav ≡ false
      unused = apart_is (has_nav s.history.added nav) parts.1

      known_not : form.nav ≡ nav → (form.nav.0 ≡ 0) ⊎ (has_nav s.history.added form.nav ≡ true) → ⊥
      known_not same (inl top) =
          let number : nav.0 ≡ 0 = sym (ap (λ (n : NavId). n.0) same) ∙ top in
          let never : true ≡ false = sym (ap (λ (n : ℕ). n == 0) number) ∙ child in
          cc
      known_not same (inr used) =
          let never : true ≡ false = sym used ∙ ap (λ (n : NavId). has_nav s.history.added n) same ∙ unused in
          cc

  -- who has one is another one
  form_apart : (x : NavId) (form : Form) → form_in (forms_of s.places) x ≡ Some form → (nav.0 == x.0) ≡ false
  form_apart x form found = by_test (nav.0 == x.0) refl
    where
      by_test : (b : Bool) → (nav.0 == x.0) ≡ b → (nav.0 == x.0) ≡ false
      by_test false e = e
      by_test true e =
          absurd (no_form form (ap (λ (n : NavId). form_in (forms_of s.places) n) (nav_is nav x e) ∙ found))

  -- so is who had an entry
  added_apart : (x : NavId) → has_row x s.history.rows ≡ true → (nav.0 == x.0) ≡ false
  added_apart x has =
      let a : Passing (is_of x) s.history.rows = any_has (is_of x) s.history.rows has in
      let p : IsPlaced (forms_of s.places) a.it = well.hangs.rows.placed a.it a.there in
      form_apart x p.form (ap (λ (n : NavId). form_in (forms_of s.places) n) (sym (nav_is a.it.nav x a.passes)) ∙ p.found)

  -- where each document's navigable has a place, none is of the new one
  pub nobodys_yet : ((doc : DocId) (d : Document) → document_of s doc ≡ Some d → HasPlace s.places d.nav) → IsNobodys s nav
  nobodys_yet placed = record { each = each }
    where
      each : (doc : DocId) (d : Document) → document_of s doc ≡ Some d → (d.nav.0 == nav.0) ≡ false
      each doc d found =
          let at : HasPlace s.places d.nav = placed doc d found in
          let apart : (nav.0 == d.nav.0) ≡ false = form_apart d.nav (form_of at.place) (form_there s.places d.nav at.place at.found) in
          grind (arith, nat_tests, apart)

  -- another one hangs as it hung
  other_form : (x : NavId) → (nav.0 == x.0) ≡ false → form_in (forms_of added.places) x ≡ form_in (forms_of s.places) x
  other_form x apart =
      ap (λ (l : List Form). form_in l x) (taken_kept s.history (applied s.history (changes.AddFrame owner nav entry state)) req (places_added s req owner nav))
      ∙ by_parent (option_and_then (place_of s) (holder_of owner s.history.rows))
    where
      by_parent : (o : Option Place) → form_in (forms_of (option_map_or (λ (parent : Place). s.places ++ new_place req nav owner parent ∷ []) o s.places)) x ≡ form_in (forms_of s.places) x
      by_parent None = refl
      by_parent (Some parent) =
          ap (λ (l : List Form). form_in l x) (forms_joined s.places (new_place req nav owner parent))
          ∙ form_other (forms_of s.places) (form_of (new_place req nav owner parent)) x apart

  added_hung : HangAlike s added
  added_hung = record { each = λ x has. form_hangs s added x (other_form x (added_apart x has)) }

  added_targets : (step : ℕ) → TargetsAlike s added step step
  added_targets step =
      record {
        each = λ x has shown st is. ap (λ (o : Option Row). holds (λ (row : Row). row.state.0 == st.0) o) (target_more s.history.rows new x step (none x (added_apart x (shown_row s well.sound well.hangs step x shown)))) ∙ is;
      }
    where
      none : (x : NavId) → (nav.0 == x.0) ≡ false → (is_of x new && nat_le new.step.0 step) ≡ false
      none x apart = ap (λ (b : Bool). b && nat_le new.step.0 step) apart

  added_steps : StepsStay s added
  added_steps =
      steps_alike s added well.sound well.hangs well.then_sound (hangs_then s event actor req (changes.AddFrame owner nav entry state) well) added_hung
      (record { targets = added_targets; current = λ x st. refl })

  module _ (nobodys : IsNobodys s nav) where
    turned : (doc : DocId) (d : Document) → document_of s doc ≡ Some d → (nav.0 == d.nav.0) ≡ false
    turned doc d found =
        (let apart : (d.nav.0 == nav.0) ≡ false = nobodys.each doc d found in let back : (nav.0 == d.nav.0) ≡ false = grind (arith, nat_tests, apart) in back)

    added_places : PlacesStay s added
    added_places =
        record { each = λ doc d for found place at. was_place s added d.nav (other_form d.nav (turned doc d found)) place at }

    added_rows : RowsStay s added
    added_rows =
        record { each = λ doc d for found has. sym (any_last d.nav s.history.rows (turned doc d found)) ∙ has }
      where
        any_last : (x : NavId) (l : List Row) → (nav.0 == x.0) ≡ false → has_row x (l ++ new ∷ []) ≡ has_row x l
        any_last x [] apart = ap (λ (b : Bool). b || false) apart
        any_last x (row ∷ l) apart = ap (λ (b : Bool). is_of x row || b) (any_last x l apart)

    -- whom requests leave was asked for them still, where no document is of the new navigable yet
    pub add_asked : AreAsked s → AreAsked added
    add_asked asked =
        asked_stays s added (requests_then s event actor req (changes.AddFrame owner nav entry state)) (documents_then s event actor req (changes.AddFrame owner nav entry state)) added_places added_rows added_steps asked

    -- so was whom loads and reloads leave
    pub add_below : BelowAsked s → BelowAsked added
    add_below asked =
        below_stays s added (requests_then s event actor req (changes.AddFrame owner nav entry state)) (documents_then s event actor req (changes.AddFrame owner nav entry state)) added_places asked
