-- Each awake navigable's document is at home as a change is applied.
use Rattle.std.proofs.Common.{◌≡◌, ◌≢◌, ◌⊎◌, inl, inr, ℕ, ◌+◌, Bool, true, false, cond, not, ◌&&◌, ◌==◌, List, [], ◌∷◌, ◌++◌, map, Option, Some, None, refl, sym, ap, ◌∙◌, subst}
use Rattle.std.specs.Prelude.{filter, nat_le, option_map, option_and_then}
use Rattle.std.specs.Option.{option_map_or}
use Rattle.tab_ids.specs.declared.DocId.{DocId}
use Rattle.tab_ids.specs.declared.EntryId.{EntryId}
use Rattle.tab_ids.specs.declared.NavId.{NavId}
use Rattle.tab_ids.specs.declared.ReqId.{ReqId}
use Rattle.tab_ids.specs.declared.StateId.{StateId}
use Rattle.tab_ids.specs.declared.Step.{Step}
use Rattle.address.specs.Addresses.{blank_text}
use Rattle.log_model.specs.declared.change.Change.{Change}
use Rattle.log_model.specs.declared.change.Change.TheVariants as changes
use Rattle.log_model.specs.declared.made.Made.{Made}
use Rattle.log_model.specs.declared.row.Row.{Row}
use Rattle.log_model.specs.declared.row_kind.Actor.{Actor}
use Rattle.log_model.specs.declared.row_kind.RowKind.TheVariants as rows
use Rattle.log_model.specs.After.{after}
use Rattle.log_model.specs.AfterDocuments.{told_after_change, applied_to}
use Rattle.log_model.specs.AfterPlaces.{on_place, given_entry, new_place, places_added, places_given, places_applied}
use Rattle.log_model.specs.History.{History, same_entry, is_of, has_row, first_step, owner_of, cleared, replaced_row, applied}
use Rattle.log_model.specs.Places.{holder_of}
use Rattle.log_model.specs.Seen.{Seen, Document, Asked, Place, awake, asleep, place_in, place_of, request_of}
use Rattle.log_model.proofs.Refl.{nat_eq_refl}
use Rattle.seen_laws.proofs.Keyed.{find_map}
use Rattle.seen_facts.specs.Hang.Members.{Has}
use Rattle.seen_facts.proofs.Hang.Forms.{nav_is}
use Rattle.seen_facts.proofs.Hang.Members.{IsOf, has_filter, has_map, has_more, has_tidied}
use Rattle.seen_facts.proofs.Walk.Placed.{found_nav}
use Rattle.seen_facts.specs.Home.Homes.{document_in, EachWake, IsHomed, IsOfState, AreHomed}
use Rattle.seen_facts.proofs.Home.Again.{KeepsHome, StaysIn, AllStayIn, WasOn, all_mapped, homed_again, state_again, hung_again}
use Rattle.seen_facts.proofs.Home.Mapped.{KeepsWake, keeps_on, keeps_both, WasAt, was_at, mapped_homed, alike_homed}

-- ---- the documents

same_home : (d : Document) → KeepsHome d d
same_home d = record { nav = refl; state = refl; ready = λ e. e; discarded = refl; known = refl }

home_both : (d mid new : Document) → KeepsHome d mid → KeepsHome mid new → KeepsHome d new
home_both d mid new one two =
    record { nav = two.nav ∙ one.nav; state = two.state ∙ one.state; ready = λ e. two.ready (one.ready e); discarded = two.discarded ∙ one.discarded; known = two.known ∙ one.known }

untold : (d : Document) (b : Bool) → KeepsHome d (cond b (record d { told = None }) d) × ((let x : Document = cond b (record d { told = None }) d in x).nr ≡ d.nr)
untold d true = (record { nav = refl; state = refl; ready = λ e. e; discarded = refl; known = refl }, refl)
untold d false = (same_home d, refl)

numbered : (entry : EntryId) (d : Document) (b : Bool) → KeepsHome d (cond b (record d { last_applied = entry.nr }) d) × ((let x : Document = cond b (record d { last_applied = entry.nr }) d in x).nr ≡ d.nr)
numbered entry d true = (record { nav = refl; state = refl; ready = λ e. e; discarded = refl; known = refl }, refl)
numbered entry d false = (same_home d, refl)

stale : (d : Document) (b : Bool) → KeepsHome d (cond b (record d { is_fresh = false }) d) × ((let x : Document = cond b (record d { is_fresh = false }) d in x).nr ≡ d.nr)
stale d true = (record { nav = refl; state = refl; ready = λ e. e; discarded = refl; known = refl }, refl)
stale d false = (same_home d, refl)

told_keeps : (c : Change) (d : Document) → KeepsHome d (told_after_change d c) × ((told_after_change d c).nr ≡ d.nr)
told_keeps (changes.Push nav entry state address memo) d = untold d (d.nr.0 == entry.maker)
told_keeps (changes.Replace nav over entry state address memo) d = (same_home d, refl)
told_keeps (changes.AddFrame owner nav entry state) d = (same_home d, refl)
told_keeps (changes.RemoveFrame nav) d = (same_home d, refl)
told_keeps (changes.Traverse goal) d = (same_home d, refl)
told_keeps (changes.Reload nav) d = (same_home d, refl)
told_keeps changes.Edit d = (same_home d, refl)

applied_keeps : (c : Change) (d : Document) → KeepsHome d (applied_to c d) × ((applied_to c d).nr ≡ d.nr)
applied_keeps (changes.Push nav entry state address memo) d = numbered entry d (d.nr.0 == entry.maker)
applied_keeps (changes.Replace nav over entry state address memo) d = numbered entry d (d.nr.0 == entry.maker)
applied_keeps (changes.AddFrame owner nav entry state) d = (same_home d, refl)
applied_keeps (changes.RemoveFrame nav) d = (same_home d, refl)
applied_keeps (changes.Traverse goal) d = (same_home d, refl)
applied_keeps (changes.Reload nav) d = stale d (d.nav.0 == nav.0)
applied_keeps changes.Edit d = (same_home d, refl)

pub changed_stay : (c : Change) (documents : List Document) → AllStayIn documents (map (λ (d : Document). applied_to c (told_after_change d c)) documents)
changed_stay c documents =
    all_mapped (λ (d : Document). applied_to c (told_after_change d c)) documents
    (λ d. ap (λ (n : DocId). n.0) ((applied_keeps c (told_after_change d c)).1 ∙ (told_keeps c d).1))
    (λ d. home_both d (told_after_change d c) (applied_to c (told_after_change d c)) (told_keeps c d).0 (applied_keeps c (told_after_change d c)).0)

-- ---- the places

-- each place then: as awake as before, and given what it was, but where it is given the entry
pub record IsMapped (s t : Seen) : Type 0 where
  pub g : Place → Place
  pub keeps : KeepsWake g
  pub are : t.places ≡ map g s.places

map_both : {A : Type 0} (f g : A → A) (xs : List A) → map g (map f xs) ≡ map (λ (x : A). g (f x)) xs
map_both f g [] = refl
map_both f g (x ∷ xs) = ap (λ l. g (f x) ∷ l) (map_both f g xs)

abbrev pub taker : History → History → ReqId → Place → Place
taker old new req place = cond (has_row place.nav old.rows && not (has_row place.nav new.rows)) (record place { taken_by = Some req }) place

pub taker_keeps : (old new : History) (req : ReqId) → KeepsWake (taker old new req)
taker_keeps old new req =
    record {
      nav = λ p. elim (has_row p.nav old.rows && not (has_row p.nav new.rows)) as (λ b. (let q : Place = cond b (record p { taken_by = Some req }) p in q).nav ≡ p.nav) [ true ↦ refl | false ↦ refl ];
      above = λ p. elim (has_row p.nav old.rows && not (has_row p.nav new.rows)) as (λ b. (let q : Place = cond b (record p { taken_by = Some req }) p in q).above ≡ p.above) [ true ↦ refl | false ↦ refl ];
      owners = λ p. elim (has_row p.nav old.rows && not (has_row p.nav new.rows)) as (λ b. (let q : Place = cond b (record p { taken_by = Some req }) p in q).owners ≡ p.owners) [ true ↦ refl | false ↦ refl ];
      status = λ p. elim (has_row p.nav old.rows && not (has_row p.nav new.rows)) as (λ b. (let q : Place = cond b (record p { taken_by = Some req }) p in q).status ≡ p.status) [ true ↦ refl | false ↦ refl ];
      last = λ p. elim (has_row p.nav old.rows && not (has_row p.nav new.rows)) as (λ b. (let q : Place = cond b (record p { taken_by = Some req }) p in q).last ≡ p.last) [ true ↦ refl | false ↦ refl ];
    }

pub taker_given : (old new : History) (req : ReqId) (p : Place) → (taker old new req p).given ≡ p.given
taker_given old new req p = elim (has_row p.nav old.rows && not (has_row p.nav new.rows)) as (λ b. (let q : Place = cond b (record p { taken_by = Some req }) p in q).given ≡ p.given) [ true ↦ refl | false ↦ refl ]

given_keeps : (entry : EntryId) → KeepsWake (given_entry entry)
given_keeps entry = record { nav = λ p. refl; above = λ p. refl; owners = λ p. refl; status = λ p. refl; last = λ p. refl }

pending_keeps : KeepsWake (λ (p : Place). record p { is_pending = true; is_unmet = true })
pending_keeps = record { nav = λ p. refl; above = λ p. refl; owners = λ p. refl; status = λ p. refl; last = λ p. refl }

module _ (s : Seen) (event : ℕ) (actor : Actor) (req : ReqId) (homes : AreHomed s) where
  abbrev pub then_ : Change → Seen
  then_ c = after s (record { event = event; actor = actor; row = rows.Applied req c })

  -- ---- changes that give no entry

  abbrev takes : Change → Place → Place
  takes c = taker s.history (applied s.history c) req

  -- where the places are those before, with the taker noted, and rows were there
  quiet_homed : (c : Change) → places_applied s req c ≡ map (takes c) s.places → ((row : Row) → Has (applied s.history c).rows row → Has s.history.rows row) → AreHomed (then_ c)
  quiet_homed c are part =
      alike_homed s (then_ c) (takes c) (taker_keeps s.history (applied s.history c) req) are (changed_stay c s.documents) homes (taker_given s.history (applied s.history c) req) part

  pub traversed_homed : (goal : Step) → AreHomed (then_ (changes.Traverse goal))
  traversed_homed goal = quiet_homed (changes.Traverse goal) refl (λ row there. there)

  pub edited_homed : AreHomed (then_ changes.Edit)
  edited_homed = quiet_homed changes.Edit refl (λ row there. there)

  pub removed_homed : (nav : NavId) → AreHomed (then_ (changes.RemoveFrame nav))
  removed_homed nav =
      quiet_homed (changes.RemoveFrame nav) refl (λ row there. (has_filter (λ (r : Row). not (is_of nav r)) s.history.rows row (has_tidied (filter (λ (r : Row). not (is_of nav r)) s.history.rows) row there).0).0)

  pub reloaded_homed : (nav : NavId) → AreHomed (then_ (changes.Reload nav))
  reloaded_homed nav =
      alike_homed s (then_ (changes.Reload nav)) (λ (p : Place). takes (changes.Reload nav) (at p)) (keeps_both at (takes (changes.Reload nav)) (keeps_on nav (λ (p : Place). record p { is_pending = true; is_unmet = true }) pending_keeps) (taker_keeps s.history (applied s.history (changes.Reload nav)) req)) (map_both at (takes (changes.Reload nav)) s.places) (changed_stay (changes.Reload nav) s.documents) homes (λ p. taker_given s.history (applied s.history (changes.Reload nav)) req (at p) ∙ given p) (λ row there. there)
    where
      at : Place → Place
      at p = cond (p.nav.0 == nav.0) (record p { is_pending = true; is_unmet = true }) p

      given : (p : Place) → (at p).given ≡ p.given
      given p = elim (p.nav.0 == nav.0) as (λ b. (let q : Place = cond b (record p { is_pending = true; is_unmet = true }) p in q).given ≡ p.given) [ true ↦ refl | false ↦ refl ]

  -- ---- what a document made: its navigable is given the entry

  -- what was made by the document on which the navigable is awake, a new entry of its state
  pub record IsNewGiven (nav : NavId) (entry : EntryId) (state : StateId) : Type 0 where
    pub q : Asked
    pub made : Made
    pub asked : request_of s req ≡ Some q
    pub makes : q.made ≡ Some made
    pub fresh : (row : Row) → Has s.history.rows row → row.entry ≢ entry
    pub own : (place : Place) (doc : DocId) (d : Document) → place_of s nav ≡ Some place → place.status ≡ awake doc → document_in s.documents doc ≡ Some d → state ≡ d.state

  -- a row of the history then: one from before, or the new one
  abbrev pub OldOrNew : Change → NavId → EntryId → StateId → Type 0
  OldOrNew c nav entry state =
      (row : Row) → Has (applied s.history c).rows row → Has s.history.rows row ⊎ ((row.nav ≡ nav) × (row.entry ≡ entry) × (row.state ≡ state))

  given_homed : (c : Change) (nav : NavId) (entry : EntryId) (state : StateId) → IsNewGiven nav entry state → places_applied s req c ≡ map (takes c) (places_given s req nav entry) → OldOrNew c nav entry state → AreHomed (then_ c)
  given_homed c nav entry state is are old_or_new =
      mapped_homed s (then_ c) g keeps places (changed_stay c s.documents) homes state_then
    where
      gives : Place → Place
      gives p = cond (p.nav.0 == nav.0) (given_entry entry p) p

      g : Place → Place
      g p = takes c (gives p)

      keeps : KeepsWake g
      keeps = keeps_both gives (takes c) (keeps_on nav (given_entry entry) (given_keeps entry)) (taker_keeps s.history (applied s.history c) req)

      given_are : places_given s req nav entry ≡ map gives s.places
      given_are =
          ap (λ (o : Option Made). option_map_or (λ (m : Made). on_place nav (given_entry entry) s.places) o s.places)
          (ap (λ (o : Option Asked). option_and_then (λ (x : Asked). x.made) o) is.asked ∙ is.makes)

      places : (then_ c).places ≡ map g s.places
      places = are ∙ ap (λ (l : List Place). map (takes c) l) given_are ∙ map_both gives (takes c) s.places

      state_then : EachWake (IsOfState (then_ c).history.rows (then_ c).documents) (then_ c)
      state_then other place doc there wakes row d has navs given found =
          by_nav (w.before.nav.0 == nav.0) refl (old_or_new row has)
        where
          w : WasAt s g other place
          w = was_at s (then_ c) g keeps places other place there

          on : w.before.status ≡ awake doc
          on = sym (keeps.status w.before) ∙ ap (λ (p : Place). p.status) w.is ∙ wakes

          h : IsHomed s.documents w.before doc
          h = homes.homed other w.before doc w.there on

          -- the state of its document stays
          state_same : h.home.document.state ≡ d.state
          state_same =
              let k : StaysIn (then_ c).documents doc h.home.document = changed_stay c s.documents doc h.home.document h.home.found in
              let both : Some k.new ≡ Some d = sym k.found ∙ found in
              let one : k.new ≡ d = cc in
              sym k.keeps.state ∙ ap (λ (x : Document). x.state) one

          navs_before : row.nav ≡ w.before.nav
          navs_before = navs ∙ ap (λ (p : Place). p.nav) (sym w.is) ∙ keeps.nav w.before

          given_before : (b : Bool) → (w.before.nav.0 == nav.0) ≡ b → (let p : Place = cond b (given_entry entry w.before) w.before in p).given ≡ Some row.entry
          given_before b e =
              ap (λ (x : Bool). (let p : Place = cond x (given_entry entry w.before) w.before in p).given) (sym e) ∙ sym (taker_given s.history (applied s.history c) req (gives w.before)) ∙ ap (λ (p : Place). p.given) w.is ∙ given

          by_nav : (b : Bool) → (w.before.nav.0 == nav.0) ≡ b → Has s.history.rows row ⊎ ((row.nav ≡ nav) × (row.entry ≡ entry) × (row.state ≡ state)) → row.state ≡ d.state
          by_nav true e (inl old) =
              let entries : Some entry ≡ Some row.entry = given_before true e in
              absurd (is.fresh row old (let same : entry ≡ row.entry = cc in sym same))
          by_nav true e (inr new) =
              let own : other ≡ nav = sym (found_nav s.places other w.before w.there) ∙ nav_is w.before.nav nav e in
              new.2 ∙ is.own w.before doc h.home.document (ap (place_of s) (sym own) ∙ w.there) on h.home.found ∙ state_same
          by_nav false e (inl old) =
              homes.state other w.before doc w.there on row h.home.document old navs_before (given_before false e) h.home.found ∙ state_same
          by_nav false e (inr new) =
              let same : w.before.nav ≡ nav = sym navs_before ∙ new.0 in
              let no_ : true ≡ false = sym (nat_eq_refl nav.0) ∙ ap (λ (n : NavId). n.0 == nav.0) (sym same) ∙ e in cc

  pub pushed_homed : (nav : NavId) (entry : EntryId) (state : StateId) (address : List ℕ) (memo : Option (List ℕ)) → IsNewGiven nav entry state → AreHomed (then_ (changes.Push nav entry state address memo))
  pushed_homed nav entry state address memo is =
      given_homed (changes.Push nav entry state address memo) nav entry state is refl old_or_new
    where
      old_or_new : OldOrNew (changes.Push nav entry state address memo) nav entry state
      old_or_new row has = by_case (has_more (cleared s.history) put row has)
        where
          put : Row
          put = record { owner = owner_of nav (cleared s.history); nav = nav; entry = entry; step = record { 0 = s.history.current + 1 }; state = state; address = address; memo = memo }

          by_case : Has (cleared s.history) row ⊎ (put ≡ row) → Has s.history.rows row ⊎ ((row.nav ≡ nav) × (row.entry ≡ entry) × (row.state ≡ state))
          by_case (inl kept) = inl (has_filter (λ (r : Row). nat_le r.step.0 s.history.current) s.history.rows row (has_tidied (filter (λ (r : Row). nat_le r.step.0 s.history.current) s.history.rows) row kept).0).0
          by_case (inr same) = inr (ap (λ (r : Row). r.nav) (sym same), ap (λ (r : Row). r.entry) (sym same), ap (λ (r : Row). r.state) (sym same))

  pub replaced_homed : (nav : NavId) (over entry : EntryId) (state : StateId) (address : List ℕ) (memo : Option (List ℕ)) → IsNewGiven nav entry state → AreHomed (then_ (changes.Replace nav over entry state address memo))
  replaced_homed nav over entry state address memo is =
      given_homed (changes.Replace nav over entry state address memo) nav entry state is refl old_or_new
    where
      put : Row
      put = record { owner = None; nav = nav; entry = entry; step = record { 0 = 0 }; state = state; address = address; memo = memo }

      old_or_new : OldOrNew (changes.Replace nav over entry state address memo) nav entry state
      old_or_new row has = by_tests w.it w.there w.is (same_entry w.it.entry over) (is_of nav w.it) refl refl
        where
          w : IsOf (replaced_row over put) s.history.rows row
          w = has_map (replaced_row over put) s.history.rows row (has_tidied (map (replaced_row over put) s.history.rows) row has).0

          by_tests : (x : Row) → Has s.history.rows x → replaced_row over put x ≡ row → (b c : Bool) → same_entry x.entry over ≡ b → is_of nav x ≡ c → Has s.history.rows row ⊎ ((row.nav ≡ nav) × (row.entry ≡ entry) × (row.state ≡ state))
          by_tests x there is_ true true e f =
              let new : record put { owner = x.owner; step = x.step } ≡ row = (let v : replaced_row over put x ≡ record put { owner = x.owner; step = x.step } = rw (e, f) refl in sym v ∙ is_) in
              inr (ap (λ (r : Row). r.nav) (sym new), ap (λ (r : Row). r.entry) (sym new), ap (λ (r : Row). r.state) (sym new))
          by_tests x there is_ true false e f =
              let same : x ≡ row = (let v : replaced_row over put x ≡ x = rw (e, f) refl in sym v ∙ is_) in inl (subst (λ (r : Row). Has s.history.rows r) same there)
          by_tests x there is_ false c e f =
              let same : x ≡ row = (let v : replaced_row over put x ≡ x = rw e refl in sym v ∙ is_) in inl (subst (λ (r : Row). Has s.history.rows r) same there)

  -- ---- an added frame: its navigable is asleep

  module _ (owner : StateId) (nav : NavId) (entry : EntryId) (state : StateId) (none : place_of s nav ≡ None) where
    abbrev adds : Change
    adds = changes.AddFrame owner nav entry state

    -- the old one, or the new one where there was none
    abbrev IsOldOrLast : Option Place → Option Place → Place → Type 0
    IsOldOrLast now old new = (now ≡ old) ⊎ ((old ≡ None) × (now ≡ Some new))

    last_place : (l : List Place) (new : Place) (other : NavId) → IsOldOrLast (place_in (l ++ new ∷ []) other) (place_in l other) new
    last_place [] new other = by_test (new.nav.0 == other.0)
      where
        by_test : (b : Bool) → IsOldOrLast (cond b (Some new) None) None new
        by_test true = inr (refl, refl)
        by_test false = inl refl
    last_place (p ∷ l) new other = by_test (p.nav.0 == other.0) (last_place l new other)
      where
        by_test : (b : Bool) → IsOldOrLast (place_in (l ++ new ∷ []) other) (place_in l other) new → IsOldOrLast (cond b (Some p) (place_in (l ++ new ∷ []) other)) (cond b (Some p) (place_in l other)) new
        by_test true rest = inl refl
        by_test false rest = rest

    -- an awake navigable was there
    record WasThere (other : NavId) (place : Place) : Type 0 where
      before : Place
      there : place_of s other ≡ Some before
      is : takes adds before ≡ place

    then_place : (other : NavId) → place_of (then_ adds) other ≡ option_map (takes adds) (place_in (places_added s req owner nav) other)
    then_place other = find_map (λ (p : Place). p.nav.0) (takes adds) other.0 (places_added s req owner nav) (λ p. ap (λ (n : NavId). n.0) ((taker_keeps s.history (applied s.history adds) req).nav p))

    added_in : (other : NavId) → (place_in (places_added s req owner nav) other ≡ place_of s other) ⊎ ((new : Place) × (place_of s other ≡ None) × (place_in (places_added s req owner nav) other ≡ Some new) × (new.status ≡ asleep))
    added_in other = by_parent (option_and_then (place_of s) (holder_of owner s.history.rows))
      where
        by_last : (new : Place) → new.status ≡ asleep → IsOldOrLast (place_in (s.places ++ new ∷ []) other) (place_of s other) new → (place_in (s.places ++ new ∷ []) other ≡ place_of s other) ⊎ ((n : Place) × (place_of s other ≡ None) × (place_in (s.places ++ new ∷ []) other ≡ Some n) × (n.status ≡ asleep))
        by_last new sleeps (inl same) = inl same
        by_last new sleeps (inr is) = inr (new, is.0, is.1, sleeps)

        by_parent : (o : Option Place) → (place_in (option_map_or (λ (parent : Place). s.places ++ new_place req nav owner parent ∷ []) o s.places) other ≡ place_of s other) ⊎ ((new : Place) × (place_of s other ≡ None) × (place_in (option_map_or (λ (parent : Place). s.places ++ new_place req nav owner parent ∷ []) o s.places) other ≡ Some new) × (new.status ≡ asleep))
        by_parent None = inl refl
        by_parent (Some parent) = by_last (new_place req nav owner parent) refl (last_place s.places (new_place req nav owner parent) other)

    was_there : (other : NavId) (place : Place) (doc : DocId) → place_of (then_ adds) other ≡ Some place → place.status ≡ awake doc → WasThere other place
    was_there other place doc there wakes = by_case (added_in other)
      where
        by_old : (o : Option Place) → place_of s other ≡ o → option_map (takes adds) o ≡ Some place → WasThere other place
        by_old None e h = let no_ : None ≡ Some place = h in cc
        by_old (Some p) e h = record { before = p; there = e; is = let same : takes adds p ≡ place = cc in same }

        by_case : (place_in (places_added s req owner nav) other ≡ place_of s other) ⊎ ((new : Place) × (place_of s other ≡ None) × (place_in (places_added s req owner nav) other ≡ Some new) × (new.status ≡ asleep)) → WasThere other place
        by_case (inl same) = by_old (place_of s other) refl (sym (then_place other ∙ ap (λ (o : Option Place). option_map (takes adds) o) same) ∙ there)
        by_case (inr new) =
            let both : Some (takes adds new.0) ≡ Some place = sym (then_place other ∙ ap (λ (o : Option Place). option_map (takes adds) o) new.2) ∙ there in
            let one : takes adds new.0 ≡ place = cc in
            let status : asleep ≡ awake doc = sym ((taker_keeps s.history (applied s.history adds) req).status new.0 ∙ new.3) ∙ ap (λ (p : Place). p.status) one ∙ wakes in cc

    still_there : (other : NavId) (place : Place) → place_of s other ≡ Some place → place_of (then_ adds) other ≡ Some (takes adds place)
    still_there other place there = by_case (added_in other)
      where
        by_case : (place_in (places_added s req owner nav) other ≡ place_of s other) ⊎ ((new : Place) × (place_of s other ≡ None) × (place_in (places_added s req owner nav) other ≡ Some new) × (new.status ≡ asleep)) → place_of (then_ adds) other ≡ Some (takes adds place)
        by_case (inl same) = then_place other ∙ ap (λ (o : Option Place). option_map (takes adds) o) (same ∙ there)
        by_case (inr new) = let no_ : None ≡ Some place = sym new.1 ∙ there in cc

    keeps : KeepsWake (takes adds)
    keeps = taker_keeps s.history (applied s.history adds) req

    was : (other : NavId) (place : Place) (doc : DocId) → place_of (then_ adds) other ≡ Some place → place.status ≡ awake doc → WasOn s other place
    was other place doc there wakes =
        let w = was_there other place doc there wakes in
        record {
          before = w.before;
          there = w.there;
          status = sym (keeps.status w.before) ∙ ap (λ (p : Place). p.status) w.is;
          nav_is = sym (keeps.nav w.before) ∙ ap (λ (p : Place). p.nav) w.is;
          above = sym (keeps.above w.before) ∙ ap (λ (p : Place). p.above) w.is;
          owners = sym (keeps.owners w.before) ∙ ap (λ (p : Place). p.owners) w.is;
          last = sym (keeps.last w.before) ∙ ap (λ (p : Place). p.last) w.is;
        }

    pub added_homed : AreHomed (then_ adds)
    added_homed =
        record {
          homed = homed_again s (then_ adds) was (λ other place doc there wakes d found. changed_stay adds s.documents doc d found) homes.homed;
          state = state_again s (then_ adds) was (λ other place doc there wakes d found. changed_stay adds s.documents doc d found) homes.homed old;
          hung = hung_again s (then_ adds) was (λ other place doc there wakes d found. changed_stay adds s.documents doc d found) parents homes.hung;
        }
      where
        old : (other : NavId) (place : Place) (doc : DocId) → place_of (then_ adds) other ≡ Some place → place.status ≡ awake doc → (row : Row) → Has (then_ adds).history.rows row → row.nav ≡ place.nav → place.given ≡ Some row.entry → (d : Document) → document_in s.documents doc ≡ Some d → row.state ≡ d.state
        old other place doc there wakes row has navs given d found = by_case (has_more s.history.rows put row has)
          where
            put : Row
            put = record { owner = Some owner; nav = nav; entry = entry; step = record { 0 = first_step owner s.history.rows }; state = state; address = blank_text; memo = None }

            w : WasThere other place
            w = was_there other place doc there wakes

            by_case : Has s.history.rows row ⊎ (put ≡ row) → row.state ≡ d.state
            by_case (inl kept) =
                homes.state other w.before doc w.there (sym (keeps.status w.before) ∙ ap (λ (p : Place). p.status) w.is ∙ wakes) row d kept (navs ∙ ap (λ (p : Place). p.nav) (sym w.is) ∙ keeps.nav w.before) (sym (taker_given s.history (applied s.history adds) req w.before) ∙ ap (λ (p : Place). p.given) w.is ∙ given) found
            by_case (inr same) =
                let own : nav ≡ other = ap (λ (r : Row). r.nav) same ∙ navs ∙ ap (λ (p : Place). p.nav) (sym w.is) ∙ keeps.nav w.before ∙ found_nav s.places other w.before w.there in
                let no_ : None ≡ Some w.before = sym none ∙ ap (place_of s) own ∙ w.there in cc

        parents : (other : NavId) (place : Place) (doc : DocId) (parent : NavId) (others : List NavId) → place_of (then_ adds) other ≡ Some place → place.status ≡ awake doc → place.above ≡ parent ∷ others → (up : Place) (on : DocId) → place_of s parent ≡ Some up → up.status ≡ awake on → (new : Place) × (place_of (then_ adds) parent ≡ Some new) × (new.status ≡ awake on)
        parents other place doc parent others there wakes is up on found up_wakes =
            (takes adds up, still_there parent up found, keeps.status up ∙ up_wakes)
