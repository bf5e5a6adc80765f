-- What a document made is taken up where it is: the change that is due fits the history, its numbers are new, and no navigable loses its last entry.
use Rattle.seen_facts.proofs.Coord.Unread.{next}
use Rattle.seen_facts.specs.Coord.Leading.{coming, is_made_under}
use Rattle.entry_store.specs.Store.{IsStateOf, MayTake}
use Rattle.tab_facts.proofs.Frame.Changes.{frame_row, push_row, put_row}
use Rattle.tab_facts.specs.Frame.Taking.{IsToTakeUp}
use Rattle.tab_facts.proofs.FrameTab.Clearing.{cleared_keeps}
use Rattle.tab_facts.proofs.FrameTab.Leaving.{untold}
use Rattle.tab_facts.proofs.FrameTab.Skips.{without_made}
use Rattle.tab_facts.proofs.FrameTab.Takings.{coming_first}
use Rattle.tab_facts.specs.FrameTab.Desks.{IsItsOwn, waiting}
use Rattle.tab_facts.proofs.FrameWhole.Later.{its_next, later_entry}
use Rattle.tab_facts.proofs.FrameWhole.Soundly.{none_entry}
use Rattle.tab_facts.proofs.FrameWhole.Takes.{due_is, take_list, take_made}
use Rattle.seen_facts.proofs.Hang.Forms.{nav_is}
use Rattle.seen_facts.proofs.Hang.Members.{Passing, any_has, has_any, has_map, has_tidied, into_map, into_more, into_tidied}
use Rattle.seen_facts.proofs.Hang.Parts.{state_is}
use Rattle.seen_facts.proofs.Hang.Targets.{target_has}
use Rattle.seen_facts.specs.Hang.Forms.{forms_of}
use Rattle.seen_facts.specs.Hang.Members.{Has}
use Rattle.log_model.proofs.Refl.{nat_eq_refl}
use Rattle.log_model.specs.Equal.{holds}
use Rattle.log_model.specs.History.{applied, cleared, fits, has_nav, has_row, has_state, is_anchored, is_of, replaced_row, same_entry, target_entry}
use Rattle.log_model.specs.Once.{change_of_made, due_change, is_in_order, is_later_entry, next_entry_of, next_state}
use Rattle.log_model.specs.Seen.{Document, Place, Seen, desk_of}
use Rattle.log_model.specs.Places.{is_moved_in}
use Rattle.log_model.specs.Soundness as sounds
use Rattle.log_model.specs.Soundness.{hangs_on, is_entry, is_in_state, is_owned_by, stands_at}
use Rattle.log_model.specs.declared.change.Change.{Change}
use Rattle.log_model.specs.declared.made.Made.{Made}
use Rattle.log_model.specs.declared.made.What.{What}
use Rattle.log_model.specs.declared.row.Row.{Row}
use Rattle.log_model.specs.declared.row_kind.Actor.{Actor}
use Rattle.seen_facts.specs.Each.Mades.{Continues, IsNext, IsOver}
use Rattle.seen_laws.proofs.Keyed.{find_has as seen_number}
use Rattle.std.proofs.Common.{Bool, List, None, Option, Some, [], ap, arith, cond, false, map, refl, subst, sym, true, ℕ, ◌&&◌, ◌++◌, ◌+◌, ◌<◌, ◌==◌, ◌∙◌, ◌∷◌, ◌≡◌, ◌≤◌}
use Rattle.std.proofs.lemmas.Bool.{and_parts}
use Rattle.std.proofs.lemmas.Bool.Decides.{nat_tests}
use Rattle.std.specs.List.{list_any}
use Rattle.std.specs.Option.{option_map_or}
use Rattle.std.specs.Prelude.{filter, is_some}
use Rattle.tab_ids.specs.declared.EntryId.{EntryId}
use Rattle.tab_ids.specs.declared.NavId.{NavId}
use Rattle.tab_ids.specs.declared.ProcId.{ProcId}
use Rattle.tab_ids.specs.declared.ReqId.{ReqId}
use Rattle.tab_ids.specs.declared.StateId.{StateId}
use Rattle.log_model.specs.declared.change.Change.TheVariants as changes
use Rattle.log_model.specs.declared.made.What.TheVariants as whats
use Rattle.log_model.specs.declared.row_kind.RowKind.TheVariants as rows

both_true : (a b : Bool) → a ≡ true → b ≡ true → (a && b) ≡ true
both_true true true one two = refl
both_true false b one two = absurd cc
both_true true false one two = absurd cc

-- a longer list has what passed in a shorter one
any_left : {A : Type 0} (test : A → Bool) (l : List A) (x : A) → list_any test l ≡ true → list_any test (l ++ x ∷ []) ≡ true
any_left test l x e = (let a : Passing test l = any_has test l e in has_any test (l ++ x ∷ []) a.it (into_more l x a.it a.there) a.passes)

module _ (home : ProcId) (run : Option ReqId) (hand : List Made) (s : Seen) (event : ℕ) (actor : Actor) (made : Made) (it : IsToTakeUp home run hand s made) where
  -- an entry of the document's navigable
  its_row : Passing (is_of it.d.nav) s.history.rows
  its_row = any_has (is_of it.d.nav) s.history.rows it.has

  its_state : its_row.it.state ≡ it.d.state
  its_state = (it.tab.framed.stated.documents made.doc it.d it.here.found).rows_ its_row.it its_row.there (nav_is its_row.it.nav it.d.nav its_row.passes)

  pub has_its_state : has_state it.d.state s.history.rows ≡ true
  has_its_state =
      has_any (λ (row : Row). row.state.0 == it.d.state.0) s.history.rows its_row.it its_row.there (ap (λ (x : StateId). x.0 == it.d.state.0) its_state ∙ nat_eq_refl it.d.state.0)

  -- whichever change is due
  pub its_change : (change : Change) → change_of_made s it.d made.what ≡ Some change → due_change s it.q ≡ Some change
  its_change change is = due_is s it.q made it.d it.unstarted it.rests it.makes it.here.found ∙ is

  -- the entries of its document state are its navigable's
  pub state_of_it : IsStateOf it.d.nav it.d.state s.history.rows
  state_of_it other held =
      let a : Passing (λ (row : Row). is_of other row && is_in_state it.d.state row) s.history.rows = any_has (λ (row : Row). is_of other row && is_in_state it.d.state row) s.history.rows held in
      let both = and_parts (is_of other a.it) (is_in_state it.d.state a.it) a.passes in
      let its : a.it.nav ≡ it.d.nav = it.tab.kept.whose made.doc it.d a.it it.here.found a.there (state_is a.it.state it.d.state both.1) in
      ap (λ (n : NavId). n.0) (sym (nav_is a.it.nav other both.0) ∙ its)

  -- ---- a new entry

  module _ (change : Change) (entry : EntryId) (own : IsItsOwn made.doc made.what → entry.maker ≡ made.doc.0) (nexts : IsNext it.d.last_applied made.what → it.d.last_applied < entry.nr) where
    maker : entry.maker ≡ made.doc.0
    maker = own (take_made home run hand s event actor it.tab made.req it.q made change it.there it.makes it.first).own

    later : it.d.last_applied < entry.nr
    later = nexts (its_next home run hand s it.tab made it.d (untold (waiting (next s event actor (rows.Applied made.req change)) (without_made made.req hand)) (desk_of s home)) it.here (take_list home run hand s event actor it.tab made.req it.q made change it.there it.makes it.first) it.has)

    pub entry_maker : (entry.maker == 0) ≡ false
    entry_maker =
        let real : 1 ≤ it.d.nr.0 = (it.tab.framed.documents made.doc it.d it.here.found).real in
        let number : it.d.nr.0 ≡ made.doc.0 = seen_number (λ (x : Document). x.nr.0) made.doc.0 s.documents it.d it.here.found in
        apart entry.maker (omega (arith, maker, real, number))
      where
        apart : (n : ℕ) → 1 ≤ n → (n == 0) ≡ false
        apart n low = grind (arith, nat_tests, low)

    pub entry_new : list_any (is_entry entry) s.history.rows ≡ false
    entry_new =
        none_entry s.history.rows entry (λ row has same.
        let number : it.d.nr.0 ≡ made.doc.0 = seen_number (λ (x : Document). x.nr.0) made.doc.0 s.documents it.d it.here.found in
        let low : row.entry.nr ≤ it.d.last_applied = (it.tab.framed.entries.of_row row has).applied made.doc it.d it.here.found (ap (λ (e : EntryId). e.maker) same ∙ maker ∙ sym number) in
        let nr : row.entry.nr ≡ entry.nr = ap (λ (e : EntryId). e.nr) same in
        omega (arith, low, nr, later))

    pub entry_later : is_later_entry s entry ≡ true
    entry_later = later_entry home run hand s it.tab made it.d entry it.here.found maker later

  -- ---- a push

  module _ (entry : EntryId) (memo : Option (List ℕ)) (address : List ℕ) (what : made.what ≡ whats.Push entry memo address) where
    abbrev push : Change
    push = changes.Push it.d.nav entry it.d.state address memo

    push_own : IsItsOwn made.doc made.what → entry.maker ≡ made.doc.0
    push_own is = subst (λ (w : What). IsItsOwn made.doc w) what is

    push_next : IsNext it.d.last_applied made.what → it.d.last_applied < entry.nr
    push_next is = subst (λ (w : What). IsNext it.d.last_applied w) what is

    pub push_fits : fits s.history push ≡ true
    push_fits = cleared_keeps s.history (forms_of s.places) it.tab.sound it.tab.hangs.rows it.tab.framed.stated.one it.tab.framed.stated.begins it.d.nav it.has

    pub push_in_order : is_in_order s push ≡ true
    push_in_order = entry_later push entry push_own push_next

    pub push_may : MayTake s.history push
    push_may = (entry_new push entry push_own push_next, state_of_it)

    pub push_maker : (entry.maker == 0) ≡ false
    push_maker = entry_maker push entry push_own push_next

    pub push_due : due_change s it.q ≡ Some push
    push_due = its_change push (ap (λ (w : What). change_of_made s it.d w) what)

    pub push_keeps_rows : (nav : NavId) → has_row nav s.history.rows ≡ true → has_row nav (applied s.history push).rows ≡ true
    push_keeps_rows nav has =
        any_left (is_of nav) (cleared s.history) (push_row s.history it.d.nav entry it.d.state address memo) (cleared_keeps s.history (forms_of s.places) it.tab.sound it.tab.hangs.rows it.tab.framed.stated.one it.tab.framed.stated.begins nav has)

  -- ---- a frame is added

  module _ (nav : NavId) (what : made.what ≡ whats.AddFrame nav) (child : (nav.0 == 0) ≡ false) (new : has_nav s.history.added nav ≡ false) where
    abbrev add : Change
    add = changes.AddFrame it.d.state nav (next_entry_of s) (next_state s)

    pub add_fits : fits s.history add ≡ true
    add_fits = rw (has_its_state, child, new) refl

    pub add_due : due_change s it.q ≡ Some add
    add_due = its_change add (ap (λ (w : What). change_of_made s it.d w) what)

    pub add_may : MayTake s.history add
    add_may = (
      none_entry s.history.rows (next_entry_of s) (λ row has same.
          let own : row.entry.maker ≡ 0 = ap (λ (e : EntryId). e.maker) same in
          let low : row.entry.nr ≤ s.entries = (it.tab.framed.entries.of_row row has).own own in
          let nr : row.entry.nr ≡ s.entries + 1 = ap (λ (e : EntryId). e.nr) same in
          omega (arith, low, nr)),
      unused (has_state (next_state s) s.history.rows) refl,
    )
      where
        unused : (b : Bool) → has_state (next_state s) s.history.rows ≡ b → b ≡ false
        unused false e = refl
        unused true e =
            let a : Passing (λ (row : Row). row.state.0 == (s.states + 1)) s.history.rows = any_has (λ (row : Row). row.state.0 == (s.states + 1)) s.history.rows e in
            let low : a.it.state.0 ≤ s.states = (it.tab.framed.stated.given a.it a.there).given in
            let same : a.it.state ≡ next_state s = state_is a.it.state (next_state s) a.passes in
            let number : a.it.state.0 ≡ s.states + 1 = ap (λ (x : StateId). x.0) same in
            absurd (omega (arith, low, number))

    pub add_keeps_rows : (other : NavId) → has_row other s.history.rows ≡ true → has_row other (applied s.history add).rows ≡ true
    add_keeps_rows other has = any_left (is_of other) s.history.rows (frame_row s.history it.d.state nav (next_entry_of s) (next_state s)) has

  -- ---- a replace

  module _ (over entry : EntryId) (memo : Option (List ℕ)) (address : List ℕ) (what : made.what ≡ whats.Replace over entry memo address) (unmoved : is_moved_in s.requests it.d.nav ≡ false) where
    abbrev replace : Change
    replace = changes.Replace it.d.nav over entry it.d.state address memo

    replace_own : IsItsOwn made.doc made.what → entry.maker ≡ made.doc.0
    replace_own is = subst (λ (w : What). IsItsOwn made.doc w) what is

    replace_next : IsNext it.d.last_applied made.what → it.d.last_applied < entry.nr
    replace_next is = subst (λ (w : What). IsNext it.d.last_applied w) what is

    own_nav : it.here.place.nav ≡ it.d.nav
    own_nav = ap (λ (n : ℕ). let x : NavId = record { 0 = n } in x) (seen_number (λ (x : Place). x.nav.0) it.d.nav.0 s.places it.here.place it.here.placed)

    -- the replaced entry is the one that the navigable was given
    given : it.here.place.given ≡ Some over
    given = by_given it.here.place.given refl ((it.tab.framed.steady it.d.nav it.here.place it.here.placed).gave made.doc it.here.wakes)
      where
        by_given : (o : Option EntryId) → it.here.place.given ≡ o → is_some o ≡ true → it.here.place.given ≡ Some over
        by_given None e some = absurd cc
        by_given (Some x) e some =
            let left = untold (waiting (next s event actor (rows.Applied made.req replace)) (without_made made.req hand)) (desk_of s home) in
            let all : Continues x (coming (waiting s hand) (desk_of s home) made.doc it.here.place.epoch) = it.tab.framed.continues it.d.nav it.here.place made.doc x it.here.placed it.here.wakes (ap (λ (n : NavId). has_row n s.history.rows) own_nav ∙ it.has) e in
            let front : coming (waiting s hand) (desk_of s home) made.doc it.here.place.epoch ≡ made ∷ filter (is_made_under made.doc it.here.place.epoch) left = coming_first (untold (waiting s hand) (desk_of s home)) made left (take_list home run hand s event actor it.tab made.req it.q made replace it.there it.makes it.first) it.here.place.epoch it.here.under in
            let its_over : IsOver x made.what = (subst (λ (l : List Made). Continues x l) front all).0 in
            let same : over ≡ x = subst (λ (w : What). IsOver x w) what its_over in
            e ∙ ap (λ (y : EntryId). let o : Option EntryId = Some y in o) (sym same)

    -- which is its target
    pub replace_fits : fits s.history replace ≡ true
    replace_fits =
        by_target (target_entry s.history.rows it.here.place.nav s.history.current) refl (it.tab.framed.given it.d.nav it.here.place made.doc it.here.placed it.here.wakes (ap (λ (n : NavId). has_row n s.history.rows) own_nav ∙ it.has) (ap (λ (n : NavId). is_moved_in s.requests n) own_nav ∙ unmoved))
      where
        by_target : (o : Option Row) → target_entry s.history.rows it.here.place.nav s.history.current ≡ o → holds (λ (row : Row). holds (same_entry row.entry) it.here.place.given) o ≡ true → fits s.history replace ≡ true
        by_target None e is = absurd cc
        by_target (Some row) e is =
            let t = target_has s.history.rows it.here.place.nav s.history.current row e in
            let same : same_entry row.entry over ≡ true = sym (ap (λ (o : Option EntryId). holds (same_entry row.entry) o) given) ∙ is in
            has_any (λ (r : Row). same_entry r.entry over && is_of it.d.nav r) s.history.rows row t.there (both_true (same_entry row.entry over) (is_of it.d.nav row) same (ap (λ (n : NavId). n.0 == it.d.nav.0) (t.nav_is ∙ own_nav) ∙ nat_eq_refl it.d.nav.0))

    pub replace_in_order : is_in_order s replace ≡ true
    replace_in_order = entry_later replace entry replace_own replace_next

    pub replace_may : MayTake s.history replace
    replace_may = (entry_new replace entry replace_own replace_next, state_of_it)

    pub replace_maker : (entry.maker == 0) ≡ false
    replace_maker = entry_maker replace entry replace_own replace_next

    pub replace_due : due_change s it.q ≡ Some replace
    replace_due = its_change replace (ap (λ (w : What). change_of_made s it.d w) what)

    -- the row that becomes of one is of its navigable, owner and document state
    abbrev put : Row
    put = put_row it.d.nav entry it.d.state address memo

    becomes : Row → Row
    becomes row = replaced_row over put row

    kept_of : (row : Row) → Has s.history.rows row → ((replaced_row over put row).nav ≡ row.nav) × (((replaced_row over put row).owner ≡ row.owner) × ((replaced_row over put row).state ≡ row.state))
    kept_of row there = by_test (same_entry row.entry over) (is_of it.d.nav row) refl
      where
        by_test : (a b : Bool) → is_of it.d.nav row ≡ b → (let r : Row = cond (a && b) (record put { owner = row.owner; step = row.step }) row in (r.nav ≡ row.nav) × ((r.owner ≡ row.owner) × (r.state ≡ row.state)))
        by_test true true e =
            let nav : row.nav ≡ it.d.nav = nav_is row.nav it.d.nav e in
            (sym nav, (refl, sym ((it.tab.framed.stated.documents made.doc it.d it.here.found).rows_ row there nav)))
        by_test true false e = (refl, (refl, refl))
        by_test false b e = (refl, (refl, refl))

    stays_on : (row : Row) → Has s.history.rows row → is_anchored (applied s.history replace).rows (replaced_row over put row) ≡ true → has_row row.nav (applied s.history replace).rows ≡ true
    stays_on row there anchored =
        has_any (is_of row.nav) (applied s.history replace).rows (replaced_row over put row) (into_tidied (map (replaced_row over put) s.history.rows) (replaced_row over put row) (into_map (replaced_row over put) s.history.rows row there) anchored) (ap (λ (n : NavId). n.0 == row.nav.0) (kept_of row there).0 ∙ nat_eq_refl row.nav.0)

    top_stays : (nav : NavId) → nav.0 ≡ 0 → has_row nav (applied s.history replace).rows ≡ true
    top_stays nav zero =
        let a : Passing (stands_at nav 0) s.history.rows = any_has (stands_at nav 0) s.history.rows (it.tab.sound.top_row nav zero) in
        let both = and_parts (is_of nav a.it) (a.it.step.0 == 0) a.passes in
        ap (λ (n : NavId). has_row n (applied s.history replace).rows) (sym (nav_is a.it.nav nav both.0)) ∙ stays_on a.it a.there (free a.it a.there both.0 a.it.owner refl)
      where
        free : (row : Row) → Has s.history.rows row → is_of nav row ≡ true → (o : Option StateId) → row.owner ≡ o → is_anchored (applied s.history replace).rows (replaced_row over put row) ≡ true
        free row there its None e = ap (λ (o : Option StateId). option_map_or (λ (owner : StateId). has_state owner (applied s.history replace).rows) o true) ((kept_of row there).1.0 ∙ e)
        free row there its (Some owner) e =
            let owned : is_owned_by owner row ≡ true = ap (λ (o : Option StateId). option_map_or (λ (x : StateId). x.0 == owner.0) o false) e ∙ nat_eq_refl owner.0 in
            let hangs : hangs_on nav owner s.history.rows ≡ true = has_any (λ (r : Row). is_of nav r && is_owned_by owner r) s.history.rows row there (both_true (is_of nav row) (is_owned_by owner row) its owned) in
            absurd (it.tab.sound.rooted.top_owner nav owner hangs zero)

    child_stays : (child parent : NavId) (owner : StateId) → hangs_on child owner s.history.rows ≡ true → sounds.holds parent owner s.history.rows ≡ true → has_row parent (applied s.history replace).rows ≡ true → has_row child (applied s.history replace).rows ≡ true
    child_stays child parent owner hangs held stays =
        let a : Passing (λ (r : Row). is_of child r && is_owned_by owner r) s.history.rows = any_has (λ (r : Row). is_of child r && is_owned_by owner r) s.history.rows hangs in
        let both = and_parts (is_of child a.it) (is_owned_by owner a.it) a.passes in
        let h : Passing (λ (r : Row). is_of parent r && is_in_state owner r) s.history.rows = any_has (λ (r : Row). is_of parent r && is_in_state owner r) s.history.rows held in
        let parts = and_parts (is_of parent h.it) (is_in_state owner h.it) h.passes in
        let p : Passing (is_of parent) (applied s.history replace).rows = any_has (is_of parent) (applied s.history replace).rows stays in
        let x = has_map (replaced_row over put) s.history.rows p.it (has_tidied (map (replaced_row over put) s.history.rows) p.it p.there).0 in
        let navs : x.it.nav ≡ h.it.nav = sym (kept_of x.it x.there).0 ∙ ap (λ (r : Row). r.nav) x.is ∙ nav_is p.it.nav parent p.passes ∙ sym (nav_is h.it.nav parent parts.0) in
        let states : p.it.state ≡ h.it.state = sym (ap (λ (r : Row). r.state) x.is) ∙ (kept_of x.it x.there).1.1 ∙ it.tab.framed.stated.one x.it h.it x.there h.there navs in
        let there : has_state owner (applied s.history replace).rows ≡ true = has_any (λ (r : Row). r.state.0 == owner.0) (applied s.history replace).rows p.it p.there (ap (λ (n : StateId). n.0 == owner.0) states ∙ parts.1) in
        let anchored : is_anchored (applied s.history replace).rows (replaced_row over put a.it) ≡ true = ap (λ (o : Option StateId). option_map_or (λ (n : StateId). has_state n (applied s.history replace).rows) o true) ((kept_of a.it a.there).1.0 ∙ owned_is a.it.owner both.1) ∙ there in
        ap (λ (n : NavId). has_row n (applied s.history replace).rows) (sym (nav_is a.it.nav child both.0)) ∙ stays_on a.it a.there anchored
      where
        owned_is : (o : Option StateId) → option_map_or (λ (n : StateId). n.0 == owner.0) o false ≡ true → o ≡ Some owner
        owned_is None e = absurd cc
        owned_is (Some n) e = ap (λ (m : StateId). Some m) (state_is n owner e)

    pub replace_keeps_rows : (nav : NavId) → has_row nav s.history.rows ≡ true → has_row nav (applied s.history replace).rows ≡ true
    replace_keeps_rows nav has =
        it.tab.sound.rooted.leads nav has (λ (n : NavId). has_row n (applied s.history replace).rows) top_stays child_stays
