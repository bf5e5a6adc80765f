-- The navigables hang together from row to row.
use Rattle.std.proofs.Common.{◌≡◌, inl, inr, ℕ, Bool, true, false, not, ◌&&◌, List, [], ◌∷◌, ◌++◌, refl, sym, ap, ◌∙◌, subst, Option, Some, None, ◌==◌}
use Rattle.std.specs.Prelude.{option_map, option_and_then, slice_get}
use Rattle.std.specs.Option.{option_map_or}
use Rattle.std.proofs.lemmas.Bool.{and_parts}
use Rattle.tab_ids.specs.declared.DocId.{DocId}
use Rattle.tab_ids.specs.declared.EntryId.{EntryId}
use Rattle.tab_ids.specs.declared.NavId.{NavId}
use Rattle.tab_ids.specs.declared.ReqId.{ReqId}
use Rattle.tab_ids.specs.declared.StateId.{StateId}
use Rattle.tab_ids.specs.declared.ProcId.{ProcId}
use Rattle.log_model.specs.declared.change.Change.{Change}
use Rattle.log_model.specs.declared.change.Change.TheVariants as changes
use Rattle.log_model.specs.declared.row.Row.{Row}
use Rattle.log_model.specs.declared.row_kind.Actor.{Actor}
use Rattle.log_model.specs.declared.row_kind.RowKind.{RowKind}
use Rattle.log_model.specs.declared.row_kind.RowKind.TheVariants as rows
use Rattle.log_model.specs.After.{after}
use Rattle.log_model.specs.AfterPlaces.{new_place, places_added, places_applied}
use Rattle.log_model.specs.History.{History, has_nav, has_state, fits, applied}
use Rattle.log_model.specs.Opening.{opening_history}
use Rattle.log_model.specs.Places.{holder_of}
use Rattle.log_model.specs.Seen.{Seen, Place, desk_of, nothing, place_of}
use Rattle.log_model.specs.Soundness.{IsSound}
use Rattle.seen_facts.specs.Hang.Members.{Has}
use Rattle.seen_facts.specs.Hang.Forms.{Form, form_of, forms_of, form_in, AreLinked, IsOneOf, AreWoven}
use Rattle.seen_facts.specs.Hang.Hanging.{IsPlaced, HangIn, Hangs}
use Rattle.seen_facts.specs.Hang.Changing.{IsNewState, BringsState}
use Rattle.seen_facts.proofs.Hang.Forms.{IsPlaceOf, form_found, form_there, place_there, forms_joined}
use Rattle.seen_facts.proofs.Hang.Frames.{IsNoFrame, sent_kept, delivered_kept, taken_kept, applied_kept}
use Rattle.seen_facts.proofs.Hang.Members.{any_has, find_has, has_found}
use Rattle.seen_facts.proofs.Hang.Parts.{state_is}
use Rattle.seen_facts.proofs.Hang.Changes.{removed_hangs, pushed_hangs, replaced_hangs}
use Rattle.seen_facts.proofs.Hang.Added.{child_form, none_there, woven_more, added_hangs}

-- the row is neither the opening nor an applied change
abbrev pub LeavesForms : RowKind → Type 0
LeavesForms (rows.Opened entry state doc proc slot address) = ⊥
LeavesForms (rows.Applied req change) = ⊥
LeavesForms _ = Unit {0}

pub hangs_same : (s t : Seen) → t.history ≡ s.history → forms_of t.places ≡ forms_of s.places → Hangs s → Hangs t
hangs_same s t history forms hangs =
    record {
      woven = subst (λ (h : History). AreWoven h.added (forms_of t.places)) (sym history) (subst (λ (l : List Form). AreWoven s.history.added l) (sym forms) hangs.woven);
      rows = subst (λ (h : History). HangIn h.rows (forms_of t.places)) (sym history) (subst (λ (l : List Form). HangIn s.history.rows l) (sym forms) hangs.rows);
    }

-- ---- rows that change no history

module _ (s : Seen) (event : ℕ) (actor : Actor) (hangs : Hangs s) where
  abbrev then_ : RowKind → Seen
  then_ kind = after s (record { event = event; actor = actor; row = kind })

  pub left_hangs : (kind : RowKind) → LeavesForms kind → Hangs (then_ kind)
  left_hangs (rows.Opened entry state doc proc slot address) never = absurd never
  left_hangs (rows.Accepted req doc what) leaves = hangs_same s (then_ (rows.Accepted req doc what)) refl refl hangs
  left_hangs (rows.Started req goal) leaves = hangs_same s (then_ (rows.Started req goal)) refl refl hangs
  left_hangs (rows.Applied req change) never = absurd never
  left_hangs (rows.Refused req reason) leaves = hangs_same s (then_ (rows.Refused req reason)) refl refl hangs
  left_hangs (rows.Dropped req cause) leaves = hangs_same s (then_ (rows.Dropped req cause)) refl refl hangs
  left_hangs (rows.Sent job) leaves = hangs_same s (then_ (rows.Sent job)) refl (sent_kept s job job.task) hangs
  left_hangs (rows.Taken proc job live dirty) leaves = hangs_same s (then_ (rows.Taken proc job live dirty)) refl refl hangs
  left_hangs (rows.Finished proc job outcome) leaves = hangs_same s (then_ (rows.Finished proc job outcome)) refl refl hangs
  left_hangs (rows.Made proc made) leaves = hangs_same s (then_ (rows.Made proc made)) refl refl hangs
  left_hangs (rows.Delivered proc) leaves = hangs_same s (then_ (rows.Delivered proc)) refl (delivered_kept s (slice_get (desk_of s proc).reports 0)) hangs
  left_hangs (rows.Prompted req doc) leaves = hangs_same s (then_ (rows.Prompted req doc)) refl refl hangs
  left_hangs (rows.Answered req stay) leaves = hangs_same s (then_ (rows.Answered req stay)) refl refl hangs
  left_hangs (rows.Killed proc death) leaves = hangs_same s (then_ (rows.Killed proc death)) refl refl hangs
  left_hangs (rows.Evicted state) leaves = hangs_same s (then_ (rows.Evicted state)) refl refl hangs

-- ---- applied changes

module _ (s : Seen) (event : ℕ) (actor : Actor) (req : ReqId) (sound : IsSound s.history) (hangs : Hangs s) where
  abbrev now_ : Change → Seen
  now_ change = after s (record { event = event; actor = actor; row = rows.Applied req change })

  -- a change that adds no frame
  with_rows : (change : Change) → IsNoFrame change → (applied s.history change).added ≡ s.history.added → HangIn (applied s.history change).rows (forms_of s.places) → Hangs (now_ change)
  with_rows change no_frame added hang =
      record {
        woven = subst (λ (l : List Form). AreWoven (applied s.history change).added l) (sym (applied_kept s req change no_frame)) (subst (λ (a : List NavId). AreWoven a (forms_of s.places)) (sym added) hangs.woven);
        rows = subst (λ (l : List Form). HangIn (applied s.history change).rows l) (sym (applied_kept s req change no_frame)) hang;
      }

  -- an added frame: the parent's place is there
  record IsParent (owner : StateId) : Type 0 where
    holder : Row
    there : Has s.history.rows holder
    its_state : holder.state ≡ owner
    its : Place
    placed : option_and_then (place_of s) (holder_of owner s.history.rows) ≡ Some its
    same : holder.nav ≡ its.nav
    found : place_of s its.nav ≡ Some its

  parent_of : (owner : StateId) → has_state owner s.history.rows ≡ true → IsParent owner
  parent_of owner has =
      let a = any_has (λ (r : Row). r.state.0 == owner.0) s.history.rows has in
      let f = has_found (λ (r : Row). r.state.0 == owner.0) s.history.rows a.it a.there a.passes in
      let h = find_has (λ (r : Row). r.state.0 == owner.0) s.history.rows f.0 f.1 in
      let p : IsPlaced (forms_of s.places) f.0 = hangs.rows.placed f.0 h.0 in
      let at : IsPlaceOf s.places f.0.nav p.form = place_there s.places f.0.nav p.form p.found in
      let navs : p.form.nav ≡ f.0.nav = form_found (forms_of s.places) f.0.nav p.form p.found in
      let one : f.0.nav ≡ at.place.nav = sym navs ∙ ap (λ (x : Form). x.nav) (sym at.is) in
      record {
        holder = f.0;
        there = h.0;
        its_state = state_is f.0.state owner h.1;
        its = at.place;
        placed = ap (λ (o : Option Row). option_and_then (place_of s) (option_map (λ (r : Row). r.nav) o)) f.1 ∙ at.found;
        same = one;
        found = ap (place_of s) (sym one) ∙ at.found;
      }

  frame_hangs : (owner : StateId) (nav : NavId) (entry : EntryId) (state : StateId) → fits s.history (changes.AddFrame owner nav entry state) ≡ true → IsNewState s.history.rows state → Hangs (now_ (changes.AddFrame owner nav entry state))
  frame_hangs owner nav entry state fit fresh =
      let parts = and_parts (has_state owner s.history.rows && not (nav.0 == 0)) (not (has_nav s.history.added nav)) fit in
      let front = and_parts (has_state owner s.history.rows) (not (nav.0 == 0)) parts.0 in
      by_parent (parent_of owner front.0) (turned (nav.0 == 0) front.1) (turned (has_nav s.history.added nav) parts.1)
    where
      turned : (b : Bool) → not b ≡ true → b ≡ false
      turned true e = cc
      turned false e = refl

      by_parent : IsParent owner → (nav.0 == 0) ≡ false → has_nav s.history.added nav ≡ false → Hangs (now_ (changes.AddFrame owner nav entry state))
      by_parent p child unused =
          let there : form_in (forms_of s.places) p.its.nav ≡ Some (form_of p.its) = form_there s.places p.its.nav p.its p.found in
          let forms : forms_of (places_applied s req (changes.AddFrame owner nav entry state)) ≡ forms_of s.places ++ child_form nav owner (form_of p.its) ∷ [] =
          taken_kept s.history (applied s.history (changes.AddFrame owner nav entry state)) req (places_added s req owner nav)
          ∙ ap (λ (o : Option Place). forms_of (option_map_or (λ (parent : Place). s.places ++ new_place req nav owner parent ∷ []) o s.places)) p.placed
          ∙ forms_joined s.places (new_place req nav owner p.its) in
          record {
            woven = subst (λ (l : List Form). AreWoven (s.history.added ++ nav ∷ []) l) (sym forms) (woven_more s.history.added (forms_of s.places) hangs.woven nav owner (form_of p.its) there child unused);
            rows = subst (λ (l : List Form). HangIn (applied s.history (changes.AddFrame owner nav entry state)).rows l) (sym forms) (added_hangs s.history (forms_of s.places) sound hangs.rows nav owner (form_of p.its) (none_there s.history.added (forms_of s.places) hangs.woven nav owner (form_of p.its) there child unused) p.holder p.there p.its_state p.same entry state fresh);
          }

  pub applied_hangs : (change : Change) → fits s.history change ≡ true → BringsState s.history change → Hangs (now_ change)
  applied_hangs (changes.Push nav entry state address memo) fit brings =
      with_rows (changes.Push nav entry state address memo) tt refl (pushed_hangs s.history (forms_of s.places) sound hangs.rows nav entry state address memo fit brings)
  applied_hangs (changes.Replace nav over entry state address memo) fit brings =
      with_rows (changes.Replace nav over entry state address memo) tt refl (replaced_hangs s.history (forms_of s.places) sound hangs.rows nav over entry state address memo brings)
  applied_hangs (changes.AddFrame owner nav entry state) fit brings = frame_hangs owner nav entry state fit brings
  applied_hangs (changes.RemoveFrame nav) fit brings =
      with_rows (changes.RemoveFrame nav) tt refl (removed_hangs s.history (forms_of s.places) sound hangs.rows nav)
  applied_hangs (changes.Traverse goal) fit brings = with_rows (changes.Traverse goal) tt refl hangs.rows
  applied_hangs (changes.Reload nav) fit brings = with_rows (changes.Reload nav) tt refl hangs.rows
  applied_hangs changes.Edit fit brings = with_rows changes.Edit tt refl hangs.rows

-- ---- the opening

module _ (event : ℕ) (actor : Actor) (entry : EntryId) (state : StateId) (doc : DocId) (proc : ProcId) (slot : Option ℕ) (address : List ℕ) where
  abbrev pub opened_ : Seen
  opened_ = after nothing (record { event = event; actor = actor; row = rows.Opened entry state doc proc slot address })

  abbrev the_row : Row
  the_row = record { owner = None; nav = record { 0 = 0 }; entry = entry; step = record { 0 = 0 }; state = state; address = address; memo = None }

  only : (row : Row) → Has (opening_history entry state address).rows row → the_row ≡ row
  only row (inl same) = same
  only row (inr never) = absurd never

  none_owned : (row : Row) (x : StateId) → Has (opening_history entry state address).rows row → row.owner ≡ Some x → ⊥
  none_owned row x there is = let no_ : None ≡ Some x = ap (λ (r : Row). r.owner) (only row there) ∙ is in cc

  abbrev the_form : Form
  the_form = record { nav = record { 0 = 0 }; above = []; owners = [] }

  one_form : (nav : NavId) (form : Form) → form_in (the_form ∷ []) nav ≡ Some form → the_form ≡ form
  one_form nav form found = let h = find_has (λ (f : Form). f.nav.0 == nav.0) (the_form ∷ []) form found in by_case h.0
    where
      by_case : Has (the_form ∷ []) form → the_form ≡ form
      by_case (inl same) = same
      by_case (inr never) = absurd never

  pub opened_hangs : Hangs opened_
  opened_hangs =
      record {
        woven = record {
          apart = (refl, tt);
          linked = λ nav form found. subst (λ (f : Form). AreLinked (the_form ∷ []) f.above) (one_form nav form found) tt;
          each = λ nav form found. subst (λ (f : Form). IsOneOf [] f) (one_form nav form found) (record { top = λ e. refl; child = λ parent above e. absurd (let no_ : [] ≡ parent ∷ above = e in cc); known = inl refl });
        };
        rows = record {
          placed = λ row there. subst (λ (r : Row). IsPlaced (the_form ∷ []) r) (only row there) (record { form = the_form; found = refl; owner = refl });
          holders = λ row holder form parent above there too found is owner. absurd (none_owned row holder.state there owner);
          begins = λ row holder there too owner. absurd (none_owned row holder.state there owner);
        };
      }
