-- An added frame hangs on the document state of its parent, from that state's first step on.
use Rattle.std.proofs.Common.{◌≡◌, ◌⊎◌, inl, inr, ℕ, Bool, true, false, ◌||◌, List, [], ◌∷◌, ◌++◌, refl, sym, ap, ◌∙◌, subst, Option, Some, None, ◌==◌}
use Rattle.std.specs.List.{list_any}
use Rattle.std.proofs.lemmas.List.Folds.{list_any-append}
use Rattle.tab_ids.specs.declared.EntryId.{EntryId}
use Rattle.tab_ids.specs.declared.NavId.{NavId}
use Rattle.tab_ids.specs.declared.StateId.{StateId}
use Rattle.address.specs.Addresses.{blank_text}
use Rattle.log_model.specs.declared.row.Row.{Row}
use Rattle.log_model.specs.History.{History, has_nav, first_step}
use Rattle.log_model.specs.Soundness.{holds, IsSound}
use Rattle.log_model.proofs.Refl.{nat_eq_refl}
use Rattle.history_laws.proofs.Tidying.{held}
use Rattle.seen_facts.specs.Hang.Members.{Has}
use Rattle.seen_facts.specs.Hang.Forms.{Form, form_in, AreLinked, IsOneOf, AreWoven}
use Rattle.seen_facts.specs.Hang.Hanging.{IsPlaced, BeginsBy, HangIn}
use Rattle.seen_facts.specs.Hang.Changing.{IsNewState}
use Rattle.seen_facts.proofs.Hang.Forms.{nav_is, form_found, form_last, form_stays, form_other, apart_more, linked_more}
use Rattle.seen_facts.proofs.Hang.Members.{is_in, has_any, has_more, into_more, into_last}
use Rattle.seen_facts.proofs.Hang.Leasts.{first_least}
use Rattle.seen_facts.proofs.Hang.Parts.{nav_number, same_state}
use Rattle.seen_facts.proofs.Hang.Changes.{none_hangs}

-- the form of a new child of a navigable
abbrev pub child_form : NavId → StateId → Form → Form
child_form nav owner parent = record { nav = nav; above = parent.nav ∷ parent.above; owners = owner ∷ parent.owners }

-- ---- the forms

module _ (added : List NavId) (forms : List Form) (woven : AreWoven added forms) (nav : NavId) (owner : StateId) (parent : Form) (there : form_in forms parent.nav ≡ Some parent) (child : (nav.0 == 0) ≡ false) (unused : has_nav added nav ≡ false) where
  abbrev new : Form
  new = child_form nav owner parent

  pub none_there : form_in forms nav ≡ None
  none_there = by_case (form_in forms nav) refl
    where
      known_not : (form : Form) → form.nav ≡ nav → (form.nav.0 ≡ 0) ⊎ (has_nav added form.nav ≡ true) → ⊥
      known_not form same (inl at_top) =
          let number : nav.0 ≡ 0 = sym (nav_number form.nav nav same) ∙ at_top in
          let is : (nav.0 == 0) ≡ true = rw number refl in
          let no_ : true ≡ false = sym is ∙ child in cc
      known_not form same (inr used) =
          let no_ : true ≡ false = sym used ∙ ap (λ (n : NavId). has_nav added n) same ∙ unused in cc

      by_case : (o : Option Form) → form_in forms nav ≡ o → form_in forms nav ≡ None
      by_case None e = e
      by_case (Some form) e = absurd (known_not form (form_found forms nav form e) (woven.each nav form e).known)

  pub woven_more : AreWoven (added ++ nav ∷ []) (forms ++ new ∷ [])
  woven_more =
      record {
        apart = apart_more forms new none_there woven.apart;
        linked = λ other form found. by_linked other form found (nav.0 == other.0) refl;
        each = λ other form found. by_each other form found (nav.0 == other.0) refl;
      }
    where
      mine : (other : NavId) (form : Form) → (nav.0 == other.0) ≡ true → form_in (forms ++ new ∷ []) other ≡ Some form → form ≡ new
      mine other form e found =
          let none : form_in forms other ≡ None = ap (λ (n : NavId). form_in forms n) (sym (nav_is nav other e)) ∙ none_there in
          let both : Some new ≡ Some form = sym (form_last forms new other none e) ∙ found in cc

      by_linked : (other : NavId) (form : Form) → form_in (forms ++ new ∷ []) other ≡ Some form → (b : Bool) → (nav.0 == other.0) ≡ b → AreLinked (forms ++ new ∷ []) form.above
      by_linked other form found true e =
          subst (λ (f : Form). AreLinked (forms ++ new ∷ []) f.above) (sym (mine other form e found))
          (record { form = parent; found = form_stays forms new parent.nav parent there; above_is = refl }, linked_more forms new parent.above (woven.linked parent.nav parent there))
      by_linked other form found false e =
          linked_more forms new form.above (woven.linked other form (sym (form_other forms new other e) ∙ found))

      longer : (n : NavId) → has_nav added n ≡ true → has_nav (added ++ nav ∷ []) n ≡ true
      longer n used = list_any-append (λ (m : NavId). m.0 == n.0) added (nav ∷ []) ∙ ap (λ (b : Bool). b || list_any (λ (m : NavId). m.0 == n.0) (nav ∷ [])) used

      known_more : (n : NavId) → (n.0 ≡ 0) ⊎ (has_nav added n ≡ true) → (n.0 ≡ 0) ⊎ (has_nav (added ++ nav ∷ []) n ≡ true)
      known_more n (inl at_top) = inl at_top
      known_more n (inr used) = inr (longer n used)

      itself : has_nav (added ++ nav ∷ []) nav ≡ true
      itself = has_any (λ (m : NavId). m.0 == nav.0) (added ++ nav ∷ []) nav (into_last added nav) (nat_eq_refl nav.0)

      its : IsOneOf (added ++ nav ∷ []) new
      its =
          record {
            top = λ e. absurd (let no_ : parent.nav ∷ parent.above ≡ [] = e in cc);
            child = λ p above e at_top.
                let is : (nav.0 == 0) ≡ true = rw at_top refl in
                let no_ : true ≡ false = sym is ∙ child in cc;
            known = inr itself;
          }

      by_each : (other : NavId) (form : Form) → form_in (forms ++ new ∷ []) other ≡ Some form → (b : Bool) → (nav.0 == other.0) ≡ b → IsOneOf (added ++ nav ∷ []) form
      by_each other form found true e = subst (λ (f : Form). IsOneOf (added ++ nav ∷ []) f) (sym (mine other form e found)) its
      by_each other form found false e =
          let old = woven.each other form (sym (form_other forms new other e) ∙ found) in
          record { top = old.top; child = old.child; known = known_more form.nav old.known }

-- ---- the rows

module _ (history : History) (forms : List Form) (sound : IsSound history) (hang : HangIn history.rows forms) (nav : NavId) (owner : StateId) (parent : Form) (none : form_in forms nav ≡ None) (holder : Row) (holds_there : Has history.rows holder) (its_state : holder.state ≡ owner) (its_nav : holder.nav ≡ parent.nav) (entry : EntryId) (state : StateId) (fresh : IsNewState history.rows state) where
  abbrev child_row : Row
  child_row = record { owner = Some owner; nav = nav; entry = entry; step = record { 0 = first_step owner history.rows }; state = state; address = blank_text; memo = None }

  abbrev its_form : Form
  its_form = child_form nav owner parent

  -- rows of one document state are of one navigable
  holder_same : (other : Row) → Has history.rows other → other.state ≡ owner → other.nav ≡ parent.nav
  holder_same other there is =
      let one : holds other.nav owner history.rows ≡ true = subst (λ (x : StateId). holds other.nav x history.rows ≡ true) is (held history.rows sound.rooted other (is_in history.rows other there)) in
      let two : holds holder.nav owner history.rows ≡ true = subst (λ (x : StateId). holds holder.nav x history.rows ≡ true) its_state (held history.rows sound.rooted holder (is_in history.rows holder holds_there)) in
      let number : other.nav.0 ≡ holder.nav.0 = sound.rooted.states owner other.nav holder.nav one two in
      ap (λ (n : ℕ). let x : NavId = record { 0 = n } in x) number ∙ its_nav

  -- a row's form is found in the longer list, too
  placed_old : (row : Row) → Has history.rows row → IsPlaced (forms ++ its_form ∷ []) row
  placed_old row there = let p = hang.placed row there in record { form = p.form; found = form_stays forms its_form row.nav p.form p.found; owner = p.owner }

  found_old : (row : Row) (form : Form) → Has history.rows row → form_in (forms ++ its_form ∷ []) row.nav ≡ Some form → form_in forms row.nav ≡ Some form
  found_old row form there found =
      let p = hang.placed row there in
      let both : Some p.form ≡ Some form = sym (form_stays forms its_form row.nav p.form p.found) ∙ found in p.found ∙ both

  found_new : (form : Form) → form_in (forms ++ its_form ∷ []) nav ≡ Some form → form ≡ its_form
  found_new form found =
      let both : Some its_form ≡ Some form = sym (form_last forms its_form nav none (nat_eq_refl nav.0)) ∙ found in cc

  -- nothing hangs on the new document state
  none_on_it : (row : Row) → Has history.rows row → row.owner ≡ Some state → ⊥
  none_on_it row there is = none_hangs history forms sound hang state fresh row there is

  apart_states : owner ≡ state → ⊥
  apart_states same = fresh holder holds_there (ap (λ (x : StateId). x.0) (its_state ∙ same))

  holders_old : (row other : Row) (form : Form) (p : NavId) (above : List NavId) → Has history.rows row → Has history.rows other ⊎ (child_row ≡ other) → form_in (forms ++ its_form ∷ []) row.nav ≡ Some form → form.above ≡ p ∷ above → row.owner ≡ Some other.state → other.nav ≡ p
  holders_old row other form p above there (inl too) found is on = hang.holders row other form p above there too (found_old row form there found) is on
  holders_old row other form p above there (inr same) found is on = absurd (none_on_it row there (on ∙ ap (λ (r : Row). Some r.state) (sym same)))

  holders_new : (other : Row) (form : Form) (p : NavId) (above : List NavId) → Has history.rows other ⊎ (child_row ≡ other) → form_in (forms ++ its_form ∷ []) nav ≡ Some form → form.above ≡ p ∷ above → Some owner ≡ Some other.state → other.nav ≡ p
  holders_new other form p above (inl too) found is on =
      let states : other.state ≡ owner = (let s : owner ≡ other.state = cc in sym s) in
      let ways : parent.nav ∷ parent.above ≡ p ∷ above = ap (λ (f : Form). f.above) (sym (found_new form found)) ∙ is in
      let head : parent.nav ≡ p = cc in
      holder_same other too states ∙ head
  holders_new other form p above (inr same) found is on =
      absurd (apart_states (let s : owner ≡ other.state = cc in s ∙ ap (λ (r : Row). r.state) (sym same)))

  begins_old : (row other : Row) → Has history.rows row → Has history.rows other ⊎ (child_row ≡ other) → row.owner ≡ Some other.state → BeginsBy (history.rows ++ child_row ∷ []) row.nav other.step.0
  begins_old row other there (inl too) on =
      let b = hang.begins row other there too on in
      record { row = b.row; there = into_more history.rows child_row b.row b.there; nav_is = b.nav_is; by = b.by }
  begins_old row other there (inr same) on = absurd (none_on_it row there (on ∙ ap (λ (r : Row). Some r.state) (sym same)))

  begins_new : (other : Row) → Has history.rows other ⊎ (child_row ≡ other) → Some owner ≡ Some other.state → BeginsBy (history.rows ++ child_row ∷ []) nav other.step.0
  begins_new other (inl too) on =
      let states : other.state ≡ owner = (let s : owner ≡ other.state = cc in sym s) in
      record { row = child_row; there = into_last history.rows child_row; nav_is = refl; by = first_least owner history.rows other too (same_state other.state owner states) }
  begins_new other (inr same) on =
      absurd (apart_states (let s : owner ≡ other.state = cc in s ∙ ap (λ (r : Row). r.state) (sym same)))

  pub added_hangs : HangIn (history.rows ++ child_row ∷ []) (forms ++ its_form ∷ [])
  added_hangs =
      record {
        placed = λ row there. placed_by row (has_more history.rows child_row row there);
        holders = λ row other form p above there too found is on. holders_by row other form p above (has_more history.rows child_row row there) (has_more history.rows child_row other too) found is on;
        begins = λ row other there too on. begins_by row other (has_more history.rows child_row row there) (has_more history.rows child_row other too) on;
      }
    where
      placed_by : (row : Row) → Has history.rows row ⊎ (child_row ≡ row) → IsPlaced (forms ++ its_form ∷ []) row
      placed_by row (inl there) = placed_old row there
      placed_by row (inr same) =
          subst (λ (r : Row). IsPlaced (forms ++ its_form ∷ []) r) same (record { form = its_form; found = form_last forms its_form nav none (nat_eq_refl nav.0); owner = refl })

      holders_by : (row other : Row) (form : Form) (p : NavId) (above : List NavId) → Has history.rows row ⊎ (child_row ≡ row) → Has history.rows other ⊎ (child_row ≡ other) → form_in (forms ++ its_form ∷ []) row.nav ≡ Some form → form.above ≡ p ∷ above → row.owner ≡ Some other.state → other.nav ≡ p
      holders_by row other form p above (inl there) too found is on = holders_old row other form p above there too found is on
      holders_by row other form p above (inr same) too found is on =
          holders_new other form p above too (ap (λ (r : Row). form_in (forms ++ its_form ∷ []) r.nav) same ∙ found) is (ap (λ (r : Row). r.owner) same ∙ on)

      begins_by : (row other : Row) → Has history.rows row ⊎ (child_row ≡ row) → Has history.rows other ⊎ (child_row ≡ other) → row.owner ≡ Some other.state → BeginsBy (history.rows ++ child_row ∷ []) row.nav other.step.0
      begins_by row other (inl there) too on = begins_old row other there too on
      begins_by row other (inr same) too on =
          subst (λ (n : NavId). BeginsBy (history.rows ++ child_row ∷ []) n other.step.0) (ap (λ (r : Row). r.nav) same) (begins_new other too (ap (λ (r : Row). r.owner) same ∙ on))
