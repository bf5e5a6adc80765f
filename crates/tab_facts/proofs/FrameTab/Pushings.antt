-- A push, a replace and the removal of a frame, of what a document made: each leaves all that holds in a tab of frames, where the targets of other navigables stay.
use Rattle.std.proofs.Common.{◌≡◌, ◌⊎◌, inl, inr, ℕ, ◌+◌, ◌≤◌, Bool, true, false, cond, not, ◌&&◌, ◌==◌, List, [], ◌∷◌, map, Option, Some, None, refl, sym, ap, ◌∙◌, subst, arith}
use Rattle.std.specs.Prelude.{filter, option_and_then, if◌then◌else◌}
use Rattle.std.specs.Option.{option_map_or}
use Rattle.std.proofs.lemmas.Bool.Decides.{nat_tests}
use Rattle.tab_ids.specs.declared.EntryId.{EntryId}
use Rattle.tab_ids.specs.declared.NavId.{NavId}
use Rattle.tab_ids.specs.declared.ProcId.{ProcId}
use Rattle.tab_ids.specs.declared.ReqId.{ReqId}
use Rattle.tab_ids.specs.declared.DocId.{DocId}
use Rattle.log_model.specs.declared.change.Change.{Change}
use Rattle.log_model.specs.declared.change.Change.TheVariants as changes
use Rattle.log_model.specs.declared.made.Made.{Made}
use Rattle.log_model.specs.declared.made.What.{What}
use Rattle.log_model.specs.declared.made.What.TheVariants as whats
use Rattle.log_model.specs.declared.row.Row.{Row}
use Rattle.log_model.specs.declared.row_kind.Actor.{Actor}
use Rattle.log_model.specs.declared.row_kind.RowKind.TheVariants as rows
use Rattle.log_model.specs.History.{History, same_entry, is_of, has_row, fits, owner_of, cleared, replaced_row, target_entry, applied}
use Rattle.log_model.specs.AfterPlaces.{on_place, given_entry, places_given, with_taker}
use Rattle.log_model.specs.Places.{is_given_target}
use Rattle.log_model.specs.Seen.{Seen, Document, Asked, Place, request_in}
use Rattle.log_model.specs.Soundness.{IsSound}
use Rattle.seen_facts.proofs.Coord.Unread.{next}
use Rattle.seen_facts.specs.Hang.Forms.{forms_of}
use Rattle.seen_facts.specs.Hang.Hanging.{Hangs}
use Rattle.seen_facts.specs.Hang.Members.{Has}
use Rattle.seen_facts.proofs.Hang.Members.{IsOf, has_filter, has_map, has_more, has_tidied}
use Rattle.seen_facts.specs.Home.Homes.{AreHomed}
use Rattle.seen_facts.proofs.Home.Changed.{taker}
use Rattle.seen_facts.proofs.Rest.Again.{its_number}
use Rattle.seen_facts.specs.Each.Mades.{entry_after}
use Rattle.tab_facts.specs.FrameTab.Desks.{IsItsOwn}
use Rattle.tab_facts.specs.FrameTab.Whole.{IsFrameTab}
use Rattle.tab_facts.proofs.FrameTab.Going.{IsOfRow}
use Rattle.tab_facts.proofs.FrameTab.Stating.{cleared_begins, removed_begins, more_begins, mapped_begins, puts_nav, puts_step, puts_owner, was_cleared, pushed_were, replaced_were, removed_were}
use Rattle.tab_facts.proofs.FrameTab.Changing.{IsGiving}
use Rattle.tab_facts.proofs.FrameTab.Applying.{IsTheEntry, IsToTake, changed_framed}

map_both : (f h : Place → Place) (xs : List Place) → map h (map f xs) ≡ map (λ (x : Place). h (f x)) xs
map_both f h [] = refl
map_both f h (x ∷ xs) = ap (λ l. h (f x) ∷ l) (map_both f h xs)

-- ---- who is given what

-- the navigable is given a new entry
abbrev pub gives : NavId → EntryId → Place → Place
gives nav entry x = cond (x.nav.0 == nav.0) (given_entry entry x) x

by_given : {B : Type 0} (nav : NavId) (entry : EntryId) (read : Place → B) → ((x : Place) → read (given_entry entry x) ≡ read x) → (x : Place) → read (gives nav entry x) ≡ read x
by_given nav entry read same x = elim (x.nav.0 == nav.0) as (λ b. read (let y : Place = cond b (given_entry entry x) x in y) ≡ read x) [ true ↦ same x | false ↦ refl ]

gives_giving : (nav : NavId) (entry : EntryId) (what : What) → ((old : EntryId) → entry_after old what ≡ entry) → IsGiving nav what (gives nav entry)
gives_giving nav entry what is =
    record {
      nav_is = by_given nav entry (λ x. x.nav) (λ x. refl);
      status = by_given nav entry (λ x. x.status) (λ x. refl);
      epoch = by_given nav entry (λ x. x.epoch) (λ x. refl);
      why = by_given nav entry (λ x. x.why) (λ x. refl);
      last = by_given nav entry (λ x. x.last) (λ x. refl);
      pending = by_given nav entry (λ x. x.is_pending) (λ x. refl);
      unmet = by_given nav entry (λ x. x.is_unmet) (λ x. refl);
      added = by_given nav entry (λ x. x.added_by) (λ x. refl);
      taken = by_given nav entry (λ x. x.taken_by) (λ x. refl);
      own = λ x old e given. ap (λ (b : Bool). (let y : Place = cond b (given_entry entry x) x in y).given) e ∙ ap (λ (n : EntryId). Some n) (sym (is old));
      other = λ x e. ap (λ (b : Bool). (let y : Place = cond b (given_entry entry x) x in y).given) e;
    }

-- nobody is given anything
none_giving : (nav : NavId) (what : What) → ((old : EntryId) → entry_after old what ≡ old) → IsGiving nav what (λ x. x)
none_giving nav what is =
    record { nav_is = λ x. refl; status = λ x. refl; epoch = λ x. refl; why = λ x. refl; last = λ x. refl; pending = λ x. refl; unmet = λ x. refl; added = λ x. refl; taken = λ x. refl; own = λ x old e given. given ∙ ap (λ (n : EntryId). Some n) (sym (is old)); other = λ x e. refl }

-- targets stay, but that of the navigable, whose place has its own
pub record KeepsTargets (s : Seen) (new : History) (nav : NavId) (f : Place → Place) (place : Place) : Type 0 where
  pub others : (other : NavId) → (other.0 == nav.0) ≡ false → has_row other new.rows ≡ true → target_entry new.rows other new.current ≡ target_entry s.history.rows other s.history.current
  pub own : is_given_target s.history.rows s.history.current place ≡ true → has_row nav new.rows ≡ true → is_given_target new.rows new.current (f place) ≡ true

module _ (home : ProcId) (run : Option ReqId) (hand hand_ : List Made) (s : Seen) (event : ℕ) (actor : Actor) (tab : IsFrameTab home run hand s) (sound : IsSound s.history) (hangs : Hangs s) (homes : AreHomed s) (req : ReqId) (made : Made) (d : Document) where
  -- the rows of the document's navigable are in its state
  its_rows : (change : Change) → IsToTake home run hand hand_ s (next s event actor (rows.Applied req change)) req change made d → (row : Row) → Has s.history.rows row → row.nav ≡ d.nav → row.state ≡ d.state
  its_rows change take row there same = (tab.stated.documents made.doc d take.here.found).rows_ row there same

  -- entries of a document aren't the coordinator's
  not_own : (change : Change) → IsToTake home run hand hand_ s (next s event actor (rows.Applied req change)) req change made d → (entry : EntryId) → entry.maker ≡ made.doc.0 → (entry.maker == 0) ≡ false
  not_own change take entry maker =
      let real : 1 ≤ d.nr.0 = (tab.documents made.doc d take.here.found).real in
      let nr : d.nr.0 ≡ made.doc.0 = ap (λ (n : DocId). n.0) (its_number s made.doc d take.here.found) in
      let high : 1 ≤ entry.maker = omega (arith, real, nr, maker) in
      grind (arith, nat_tests, high)

  -- a new entry's navigable is given it
  given_are : (entry : EntryId) (q : Asked) → request_in s.requests req ≡ Some q → q.made ≡ Some made → places_given s req d.nav entry ≡ map (gives d.nav entry) s.places
  given_are entry q there makes =
      ap (λ (o : Option Made). option_map_or (λ (m : Made). on_place d.nav (given_entry entry) s.places) o s.places)
      (ap (λ (o : Option Asked). option_and_then (λ (x : Asked). x.made) o) there ∙ makes)

  -- it is new among those ever given
  ever_of : (new : History) (entry : EntryId) (what : What) → IsTheEntry what entry → (x : Place) (e : EntryId) → Has (taker s.history new req (gives d.nav entry x)).ever_given e → Has x.ever_given e ⊎ IsTheEntry what e
  ever_of new entry what is x e has =
      by_test (x.nav.0 == d.nav.0) (subst (λ (l : List EntryId). Has l e) (elim (has_row (gives d.nav entry x).nav s.history.rows && not (has_row (gives d.nav entry x).nav new.rows)) as (λ b. (let y : Place = cond b (record (gives d.nav entry x) { taken_by = Some req }) (gives d.nav entry x) in y).ever_given ≡ (gives d.nav entry x).ever_given) [ true ↦ refl | false ↦ refl ]) has)
    where
      by_test : (b : Bool) → Has (let y : Place = cond b (given_entry entry x) x in y).ever_given e → Has x.ever_given e ⊎ IsTheEntry what e
      by_test true (inl same) = inr (subst (λ (y : EntryId). IsTheEntry what y) same is)
      by_test true (inr old) = inl old
      by_test false old = inl old

  -- ---- a push

  module _ (entry : EntryId) (memo : Option (List ℕ)) (address : List ℕ) (what : made.what ≡ whats.Push entry memo address) (take : IsToTake home run hand hand_ s (next s event actor (rows.Applied req (changes.Push d.nav entry d.state address memo))) req (changes.Push d.nav entry d.state address memo) made d) (fit : fits s.history (changes.Push d.nav entry d.state address memo) ≡ true) where
    abbrev pub pushing : Change
    pushing = changes.Push d.nav entry d.state address memo

    abbrev pushed_row : Row
    pushed_row = record { owner = owner_of d.nav (cleared s.history); nav = d.nav; entry = entry; step = record { 0 = s.history.current + 1 }; state = d.state; address = address; memo = memo }

    push_giving : IsGiving d.nav made.what (gives d.nav entry)
    push_giving = subst (λ (w : What). IsGiving d.nav w (gives d.nav entry)) (sym what) (gives_giving d.nav entry (whats.Push entry memo address) (λ old. refl))

    push_entry : IsTheEntry made.what entry
    push_entry = subst (λ (w : What). IsTheEntry w entry) (sym what) refl

    pub pushed_framed : KeepsTargets s (applied s.history pushing) d.nav (gives d.nav entry) take.here.place → IsFrameTab home run hand_ (next s event actor (rows.Applied req pushing))
    pushed_framed keeps =
        changed_framed home run hand hand_ s event actor tab homes req pushing made d take (gives d.nav entry) push_giving tt
        (ap (λ (l : List Place). with_taker s.history (applied s.history pushing) req l) (given_are entry take.q take.there take.makes) ∙ map_both (gives d.nav entry) (taker s.history (applied s.history pushing) req) s.places)
        (ever_of (applied s.history pushing) entry made.what push_entry)
        refl
        (ap (λ (b : Bool). if b then s.entries + 1 else s.entries) (not_own pushing take entry (subst (λ (w : What). IsItsOwn made.doc w) what take.own)))
        refl
        (record {
          were = pushed_were s.history pushed_row (its_rows pushing take) fit;
          entries = λ row has. by_case row (has_more (cleared s.history) pushed_row row has);
          begins = more_begins (cleared s.history) pushed_row fit (cleared_begins s.history (forms_of s.places) sound hangs.rows tab.stated.begins);
          added = refl;
          targets = keeps.others;
          own = keeps.own;
        })
      where
        by_case : (row : Row) → Has (cleared s.history) row ⊎ (pushed_row ≡ row) → IsOfRow s.history.rows row.entry ⊎ IsTheEntry made.what row.entry
        by_case row (inl old) = inl (record { row = row; there = was_cleared s.history row old; is = refl })
        by_case row (inr is) = inr (subst (λ (r : Row). IsTheEntry made.what r.entry) is push_entry)

  -- ---- a replace

  module _ (over entry : EntryId) (memo : Option (List ℕ)) (address : List ℕ) (what : made.what ≡ whats.Replace over entry memo address) (take : IsToTake home run hand hand_ s (next s event actor (rows.Applied req (changes.Replace d.nav over entry d.state address memo))) req (changes.Replace d.nav over entry d.state address memo) made d) where
    abbrev pub replacing : Change
    replacing = changes.Replace d.nav over entry d.state address memo

    abbrev put_row : Row
    put_row = record { owner = None; nav = d.nav; entry = entry; step = record { 0 = 0 }; state = d.state; address = address; memo = memo }

    replace_giving : IsGiving d.nav made.what (gives d.nav entry)
    replace_giving = subst (λ (w : What). IsGiving d.nav w (gives d.nav entry)) (sym what) (gives_giving d.nav entry (whats.Replace over entry memo address) (λ old. refl))

    replace_entry : IsTheEntry made.what entry
    replace_entry = subst (λ (w : What). IsTheEntry w entry) (sym what) refl

    pub replaced_framed : KeepsTargets s (applied s.history replacing) d.nav (gives d.nav entry) take.here.place → IsFrameTab home run hand_ (next s event actor (rows.Applied req replacing))
    replaced_framed keeps =
        changed_framed home run hand hand_ s event actor tab homes req replacing made d take (gives d.nav entry) replace_giving tt
        (ap (λ (l : List Place). with_taker s.history (applied s.history replacing) req l) (given_are entry take.q take.there take.makes) ∙ map_both (gives d.nav entry) (taker s.history (applied s.history replacing) req) s.places)
        (ever_of (applied s.history replacing) entry made.what replace_entry)
        refl
        (ap (λ (b : Bool). if b then s.entries + 1 else s.entries) (not_own replacing take entry (subst (λ (w : What). IsItsOwn made.doc w) what take.own)))
        refl
        (record {
          were = replaced_were s.history.rows over put_row (its_rows replacing take);
          entries = λ row has. of_row row (has_map (replaced_row over put_row) s.history.rows row (has_tidied (map (replaced_row over put_row) s.history.rows) row has).0);
          begins = mapped_begins s.history.rows (forms_of s.places) sound.rooted hangs.rows (replaced_row over put_row) (puts_nav over put_row) (puts_step over put_row) (puts_owner over put_row) tab.stated.begins;
          added = refl;
          targets = keeps.others;
          own = keeps.own;
        })
      where
        of_row : (row : Row) → IsOf (replaced_row over put_row) s.history.rows row → IsOfRow s.history.rows row.entry ⊎ IsTheEntry made.what row.entry
        of_row row w = by_both (same_entry w.it.entry over) (is_of d.nav w.it) w.is
          where
            by_both : (a b : Bool) → (let x : Row = cond (a && b) (record put_row { owner = w.it.owner; step = w.it.step }) w.it in x) ≡ row → IsOfRow s.history.rows row.entry ⊎ IsTheEntry made.what row.entry
            by_both true true e = inr (subst (λ (r : Row). IsTheEntry made.what r.entry) e replace_entry)
            by_both true false e = inl (record { row = w.it; there = w.there; is = ap (λ (r : Row). r.entry) e })
            by_both false b e = inl (record { row = w.it; there = w.there; is = ap (λ (r : Row). r.entry) e })

  -- ---- a frame removed

  module _ (nav : NavId) (what : made.what ≡ whats.RemoveFrame nav) (take : IsToTake home run hand hand_ s (next s event actor (rows.Applied req (changes.RemoveFrame nav))) req (changes.RemoveFrame nav) made d) where
    abbrev pub removing : Change
    removing = changes.RemoveFrame nav

    remove_giving : IsGiving d.nav made.what (λ x. x)
    remove_giving = subst (λ (w : What). IsGiving d.nav w (λ x. x)) (sym what) (none_giving d.nav (whats.RemoveFrame nav) (λ old. refl))

    pub removed_framed : KeepsTargets s (applied s.history removing) d.nav (λ x. x) take.here.place → IsFrameTab home run hand_ (next s event actor (rows.Applied req removing))
    removed_framed keeps =
        changed_framed home run hand hand_ s event actor tab homes req removing made d take (λ x. x) remove_giving tt refl
        (λ x e has. inl (subst (λ (l : List EntryId). Has l e) (elim (has_row x.nav s.history.rows && not (has_row x.nav (applied s.history removing).rows)) as (λ b. (let y : Place = cond b (record x { taken_by = Some req }) x in y).ever_given ≡ x.ever_given) [ true ↦ refl | false ↦ refl ]) has))
        refl refl refl
        (record {
          were = removed_were s.history.rows nav;
          entries = λ row has. inl (record { row = row; there = (has_filter (λ (r : Row). not (is_of nav r)) s.history.rows row (has_tidied (filter (λ (r : Row). not (is_of nav r)) s.history.rows) row has).0).0; is = refl });
          begins = removed_begins s.history (forms_of s.places) nav sound hangs.rows tab.stated.begins;
          added = refl;
          targets = keeps.others;
          own = keeps.own;
        })
