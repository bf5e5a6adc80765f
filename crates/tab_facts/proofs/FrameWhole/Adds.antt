-- All that holds between two rows holds after a frame is added, which its parent's document made.
use Rattle.address.specs.Addresses.{blank_text}
use Rattle.seen_facts.proofs.Hang.Members.{find_has as found_has}  -- keep
use Rattle.seen_facts.proofs.Coord.Applied.{WereThere}
use Rattle.seen_facts.proofs.Coord.Leadings.{doc_same}
use Rattle.seen_facts.proofs.Coord.Unread.{next}
use Rattle.seen_facts.specs.Coord.Leading.{Face}
use Rattle.tab_facts.proofs.FrameTab.Adding.{added_framed, any_other}
use Rattle.tab_facts.proofs.FrameTab.Applying.{IsToTake}
use Rattle.tab_facts.proofs.FrameTab.Changing.{IsMadeHere}
use Rattle.tab_facts.proofs.FrameTab.Desking.{AllStayPlaced}
use Rattle.tab_facts.proofs.FrameTab.Skips.{IsNoEntry, without_made}
use Rattle.tab_facts.proofs.FrameTab.Takings.{WasTaken, place_nav}
use Rattle.tab_facts.specs.FrameTab.Numbers.{IsNumbered}
use Rattle.tab_facts.specs.FrameTab.Whole.{IsFrameTab}
use Rattle.tab_facts.proofs.FrameWhole.FlowsEnds.{face_stays, no_push}
use Rattle.tab_facts.proofs.FrameWhole.FlowsTaken.{IsTakenUp, ShowsFace, taken_if}
use Rattle.tab_facts.proofs.FrameWhole.Soundly.{none_entry, sound_added}
use Rattle.tab_facts.proofs.FrameWhole.Takes.{IsFirstWaiting, take_known, take_list, take_made, take_once, take_waits}
use Rattle.tab_facts.proofs.FrameWhole.Taking.{had_by, has_state_of, no_new_states}
use Rattle.tab_facts.specs.FrameWhole.Beside.{AreEverGiven}
use Rattle.tab_facts.specs.FrameWhole.Tab.{IsTab}
use Rattle.seen_facts.proofs.Hang.Forms.{IsPlaceOf, nav_is, place_there}
use Rattle.seen_facts.proofs.Rest.Kept.{applied_kept}  -- keep
use Rattle.seen_facts.proofs.Hang.Members.{Passing, any_has, has_found, has_more, slice_has}
use Rattle.seen_facts.proofs.Hang.Parts.{state_is}
use Rattle.seen_facts.proofs.Hang.Rows.{applied_hangs}
use Rattle.seen_facts.specs.Hang.Forms.{forms_of}
use Rattle.seen_facts.specs.Hang.Hanging.{IsPlaced}
use Rattle.seen_facts.specs.Hang.Members.{Has}
use Rattle.seen_facts.proofs.Home.Changed.{added_homed}
use Rattle.seen_facts.specs.Home.Homes.{IsAtHome}
use Rattle.log_model.specs.AfterPlaces.{new_place, places_added, with_taker}
use Rattle.log_model.specs.History.{applied, first_step, fits, has_nav, has_row, has_state, is_of}
use Rattle.log_model.specs.Once.{change_of_made, next_entry_of, next_state}
use Rattle.log_model.specs.Places.{holder_of, top}
use Rattle.log_model.specs.Seen.{Asked, Document, Place, Seen, asleep, awake, document_of, place_in, place_of, request_of}
use Rattle.log_model.specs.declared.change.Change.{Change}
use Rattle.log_model.specs.declared.made.Made.{Made}
use Rattle.log_model.specs.declared.made.What.{What}
use Rattle.log_model.specs.declared.row.Row.{Row}
use Rattle.log_model.specs.declared.row_kind.Actor.{Actor}
use Rattle.seen_facts.specs.Each.Runs.{is_this}
use Rattle.seen_facts.specs.Each.Mades.{IsNext, entry_after}
use Rattle.seen_facts.proofs.Rest.Stands.{get_of}
use Rattle.seen_facts.proofs.Rest.Taken.{applied_rests}
use Rattle.seen_laws.proofs.Keyed.{find_has}
use Rattle.std.proofs.Common.{Bool, List, None, Option, Some, [], ap, arith, cond, false, inl, inr, length, map, not, refl, subst, sym, true, ℕ, ◌&&◌, ◌++◌, ◌+◌, ◌==◌, ◌||◌, ◌∙◌, ◌∷◌, ◌≡◌, ◌≢◌, ◌≤◌, ◌⊎◌}
use Rattle.std.proofs.lemmas.Bool.Decides.{nat_tests}
use Rattle.std.specs.List.{list_any}
use Rattle.std.specs.Option.{option_map_or}
use Rattle.std.specs.Prelude.{option_and_then, option_map}
use Rattle.tab_ids.specs.declared.DocId.{DocId}
use Rattle.tab_ids.specs.declared.EntryId.{EntryId}
use Rattle.tab_ids.specs.declared.NavId.{NavId}
use Rattle.tab_ids.specs.declared.ProcId.{ProcId}
use Rattle.tab_ids.specs.declared.ReqId.{ReqId}
use Rattle.tab_ids.specs.declared.StateId.{StateId}
use Rattle.seen_facts.proofs.Transit.Applied.{applied_ways}
use Rattle.log_model.specs.declared.change.Change.TheVariants as changes
use Rattle.log_model.specs.declared.made.What.TheVariants as whats
use Rattle.log_model.specs.declared.row_kind.RowKind.TheVariants as rows
use Rattle.std.specs.Prelude.{find}
use Rattle.tab_facts.proofs.FrameWhole.EverGiven.{each_has}
use Rattle.tab_facts.specs.FrameWhole.Beside.{IsEverGiven}

-- the entry that a navigable was given was numbered
pub given_numbered : (home : ProcId) (run : Option ReqId) (hand : List Made) (s : Seen) → IsTab home run hand s → AreEverGiven s → (nav : NavId) (place : Place) (entry : EntryId) → place_of s nav ≡ Some place → place.given ≡ Some entry → IsNumbered s.entries (length s.documents) s.documents entry
given_numbered home run hand s tab ever nav place entry placed is =
    tab.framed.entries.given nav place entry placed (each_has IsEverGiven s.places place ever (found_has (λ (p : Place). p.nav.0 == nav.0) s.places place placed).0 entry is)

some_same : {A : Type 0} {a b : A} → (let o : Option A = Some a in o) ≡ Some b → a ≡ b
some_same e = cc

-- one joins the places
place_or : (places : List Place) (new p : Place) (nav : NavId) → place_in (places ++ new ∷ []) nav ≡ Some p → (place_in places nav ≡ Some p) ⊎ (new ≡ p)
place_or [] new p nav e = inr (only (new.nav.0 == nav.0) e)
  where
    only : (b : Bool) → (let o : Option Place = cond b (Some new) None in o) ≡ Some p → new ≡ p
    only true is = some_same is
    only false is = absurd cc
place_or (x ∷ places) new p nav e = by_own (x.nav.0 == nav.0) (place_or places new p nav) e
  where
    by_own : (b : Bool) → (place_in (places ++ new ∷ []) nav ≡ Some p → (place_in places nav ≡ Some p) ⊎ (new ≡ p)) → cond b (Some x) (place_in (places ++ new ∷ []) nav) ≡ Some p → (cond b (Some x) (place_in places nav) ≡ Some p) ⊎ (new ≡ p)
    by_own true rest h = inl h
    by_own false rest h = rest h

place_still : (places : List Place) (new p : Place) (nav : NavId) → place_in places nav ≡ Some p → place_in (places ++ new ∷ []) nav ≡ Some p
place_still [] new p nav e = absurd cc
place_still (x ∷ places) new p nav e = by_own (x.nav.0 == nav.0) (place_still places new p nav) e
  where
    by_own : (b : Bool) → (place_in places nav ≡ Some p → place_in (places ++ new ∷ []) nav ≡ Some p) → cond b (Some x) (place_in places nav) ≡ Some p → cond b (Some x) (place_in (places ++ new ∷ []) nav) ≡ Some p
    by_own true rest h = h
    by_own false rest h = rest h

any_left : {A : Type 0} (test : A → Bool) (l : List A) (x : A) → list_any test l ≡ true → list_any test (l ++ x ∷ []) ≡ true
any_left test [] x e = absurd cc
any_left test (y ∷ l) x e = by_test (test y) (any_left test l x) e
  where
    by_test : (b : Bool) → (list_any test l ≡ true → list_any test (l ++ x ∷ []) ≡ true) → (b || list_any test l) ≡ true → (b || list_any test (l ++ x ∷ [])) ≡ true
    by_test true rest h = refl
    by_test false rest h = rest h

module _ (home : ProcId) (run : Option ReqId) (hand : List Made) (s : Seen) (event : ℕ) (actor : Actor) (tab : IsTab home run hand s) (ever : AreEverGiven s) (req : ReqId) (q : Asked) (made : Made) (d : Document) (nav : NavId) (other : is_this run req ≡ false) (there : request_of s req ≡ Some q) (makes : q.made ≡ Some made) (first : IsFirstWaiting hand s req made) (here : IsMadeHere s made d) (what : made.what ≡ whats.AddFrame nav) (fit : fits s.history (changes.AddFrame d.state nav (next_entry_of s) (next_state s)) ≡ true) where
  abbrev change : Change
  change = changes.AddFrame d.state nav (next_entry_of s) (next_state s)

  abbrev pub added : Seen
  added = next s event actor (rows.Applied req change)

  abbrev rest : List Made
  rest = without_made req hand

  abbrev take : IsToTake home run hand rest s added req change made d
  take =
      record {
        other = other;
        q = q;
        there = there;
        makes = makes;
        here = here;
        own = (take_made home run hand s event actor tab req q made change there makes first).own;
        next_ = subst (λ (w : What). IsNext d.last_applied w) (sym what) tt;
        change_is = ap (λ (w : What). change_of_made s d w) what;
        list = take_list home run hand s event actor tab req q made change there makes first;
        waits = take_waits home run hand s event actor tab req q made change there makes first;
      }

  fit_parts : (has_state d.state s.history.rows ≡ true) × ((nav.0 == 0) ≡ false) × (has_nav s.history.added nav ≡ false)
  fit_parts = by_parts (has_state d.state s.history.rows) (nav.0 == 0) (has_nav s.history.added nav) fit
    where
      by_parts : (a b c : Bool) → (a && not b && not c) ≡ true → (a ≡ true) × (b ≡ false) × (c ≡ false)
      by_parts true false false e = (refl, refl, refl)
      by_parts true false true e = absurd cc
      by_parts true true c e = absurd cc
      by_parts false b c e = absurd cc

  child : nav ≢ top
  child same = (let never : true ≡ false = sym (ap (λ (n : NavId). n.0 == 0) same) ∙ fit_parts.1 in cc)

  -- the navigable has no place
  unused : place_of s nav ≡ None
  unused = by_place (place_of s nav) refl
    where
      listed : (places : List Place) (p : Place) → place_in places nav ≡ Some p → has_nav (map (λ (x : Place). x.nav) places) nav ≡ true
      listed [] p e = absurd cc
      listed (x ∷ places) p e = by_own (x.nav.0 == nav.0) e (listed places p)
        where
          by_own : (b : Bool) → cond b (Some x) (place_in places nav) ≡ Some p → (place_in places nav ≡ Some p → has_nav (map (λ (y : Place). y.nav) places) nav ≡ true) → (b || has_nav (map (λ (y : Place). y.nav) places) nav) ≡ true
          by_own true h more = refl
          by_own false h more = more h

      by_place : (o : Option Place) → place_of s nav ≡ o → place_of s nav ≡ None
      by_place None e = e
      by_place (Some p) e =
          let has : has_nav (top ∷ s.history.added) nav ≡ true = ap (λ (l : List NavId). has_nav l nav) (sym tab.framed.stated.listed) ∙ listed s.places p e in
          let not_top : (top.0 == nav.0) ≡ false = (let zero : (nav.0 == 0) ≡ false = fit_parts.1 in grind (arith, nat_tests, zero)) in
          let never : false ≡ true = sym (ap (λ (b : Bool). b || has_nav s.history.added nav) not_top ∙ fit_parts.2) ∙ has in absurd cc

  -- ---- the holder

  holder : Passing (λ (row : Row). row.state.0 == d.state.0) s.history.rows
  holder = any_has (λ (row : Row). row.state.0 == d.state.0) s.history.rows fit_parts.0

  holder_state : holder.it.state ≡ d.state
  holder_state = state_is holder.it.state d.state holder.passes

  record IsParentOf : Type 0 where
    parent : Place
    under : option_and_then (place_of s) (holder_of d.state s.history.rows) ≡ Some parent

  parent_is : IsParentOf
  parent_is =
      let f = has_found (λ (row : Row). row.state.0 == d.state.0) s.history.rows holder.it holder.there holder.passes in
      let h = found_has (λ (row : Row). row.state.0 == d.state.0) s.history.rows f.0 f.1 in
      let placed : IsPlaced (forms_of s.places) f.0 = tab.hangs.rows.placed f.0 h.0 in
      let at : IsPlaceOf s.places f.0.nav placed.form = place_there s.places f.0.nav placed.form placed.found in
      record {
        parent = at.place;
        under = under_by f.0 at.place f.1 at.found;
      }
    where
      under_by : (row : Row) (place : Place) → find (λ (r : Row). r.state.0 == d.state.0) s.history.rows ≡ Some row → place_of s row.nav ≡ Some place → option_and_then (place_of s) (holder_of d.state s.history.rows) ≡ Some place
      under_by row place found placed = ap (λ (o : Option Row). option_and_then (place_of s) (option_map (λ (r : Row). r.nav) o)) found ∙ placed

  framed : IsFrameTab home run rest added
  framed =
      added_framed home run hand rest s event actor tab.framed tab.homes tab.hangs req made d nav what take parent_is.parent parent_is.under child unused holder.it holder.there holder_state

  -- ---- the places

  abbrev frame_row : Row
  frame_row = record { owner = Some d.state; nav = nav; entry = next_entry_of s; step = record { 0 = first_step d.state s.history.rows }; state = next_state s; address = blank_text; memo = None }

  not_taken : (x : Place) → (let y : Place = cond (has_row x.nav s.history.rows && not (has_row x.nav (s.history.rows ++ frame_row ∷ []))) (record x { taken_by = Some req }) x in y) ≡ x
  not_taken x = by_test (has_row x.nav s.history.rows) (has_row x.nav (s.history.rows ++ frame_row ∷ [])) (λ e. any_left (is_of x.nav) s.history.rows frame_row e) refl
    where
      by_test : (b c : Bool) → (has_row x.nav s.history.rows ≡ true → c ≡ true) → has_row x.nav s.history.rows ≡ b → (let y : Place = cond (b && not c) (record x { taken_by = Some req }) x in y) ≡ x
      by_test true true on e = refl
      by_test true false on e = (let never : false ≡ true = on e in absurd cc)
      by_test false c on e = refl

  none_taken : (l : List Place) → with_taker s.history (applied s.history change) req l ≡ l
  none_taken [] = refl
  none_taken (x ∷ l) =
      ap (λ (y : Place). y ∷ with_taker s.history (applied s.history change) req l) (not_taken x) ∙ ap (λ (k : List Place). x ∷ k) (none_taken l)

  places_are : added.places ≡ s.places ++ new_place req nav d.state parent_is.parent ∷ []
  places_are =
      none_taken (places_added s req d.state nav)
      ∙ ap (λ (o : Option Place). option_map_or (λ (p : Place). s.places ++ new_place req nav d.state p ∷ []) o s.places) parent_is.under

  old_awake : (of : NavId) (p : Place) (doc : DocId) → place_of added of ≡ Some p → p.status ≡ awake doc → place_of s of ≡ Some p
  old_awake of p doc placed wakes = by_case (place_or s.places (new_place req nav d.state parent_is.parent) p of (ap (λ (l : List Place). place_in l of) (sym places_are) ∙ placed))
    where
      by_case : (place_of s of ≡ Some p) ⊎ (new_place req nav d.state parent_is.parent ≡ p) → place_of s of ≡ Some p
      by_case (inl old) = old
      by_case (inr new) = (let never : asleep ≡ awake doc = ap (λ (x : Place). x.status) new ∙ wakes in absurd cc)

  stay : AllStayPlaced s.places added.places
  stay of p placed =
      record {
        new = p;
        found = ap (λ (l : List Place). place_in l of) places_are ∙ place_still s.places (new_place req nav d.state parent_is.parent) p of placed;
        epoch = omega arith;
      }

  -- who is awake on the document that made it is its navigable
  own_place : (of : NavId) (p : Place) → place_of s of ≡ Some p → p.status ≡ awake made.doc → here.place ≡ p
  own_place of p placed wakes =
      let at : IsAtHome s.documents p.nav made.doc = (tab.homes.homed of p made.doc placed wakes).home in
      let same : at.document ≡ d = some_same (sym at.found ∙ here.found) in
      let navs : d.nav ≡ p.nav = ap (λ (x : Document). x.nav) (sym same) ∙ at.nav_is in
      let of_is : p.nav ≡ of = ap (λ (n : ℕ). let x : NavId = record { 0 = n } in x) (find_has (λ (x : Place). x.nav.0) of.0 s.places p placed) in
      some_same (sym here.placed ∙ (ap (λ (n : NavId). place_of s n) (navs ∙ of_is) ∙ placed))

  were : (of : NavId) (p : Place) (doc : DocId) → place_of added of ≡ Some p → p.status ≡ awake doc → WasTaken s made of p doc
  were of p doc placed wakes =
      record {
        before = p;
        there = old_awake of p doc placed wakes;
        status = wakes;
        epoch = refl;
        given = λ given is. (given, is, sym (either given (made.doc.0 == doc.0)));
        under = λ e. subst (λ (x : Place). (made.epoch.0 == x.epoch.0) ≡ true) (own_place of p (old_awake of p doc placed wakes) (wakes ∙ ap (λ (x : DocId). awake x) (sym (doc_same made.doc doc e)))) here.under;
      }
    where
      either : (given : EntryId) (b : Bool) → (let x : EntryId = cond b (entry_after given made.what) given in x) ≡ given
      either given true = ap (λ (w : What). entry_after given w) what
      either given false = refl

  -- ---- the rows

  none : IsNoEntry made.what
  none = subst (λ (w : What). IsNoEntry w) (sym what) tt

  -- a row of before, or the new frame's, with an entry that nobody has yet
  old_row : (row : Row) (entry : EntryId) → IsNumbered s.entries (length s.documents) s.documents entry → row.entry ≡ entry → Has added.history.rows row → Has s.history.rows row
  old_row row entry numbered same has = by_case (has_more s.history.rows frame_row row has)
    where
      by_case : Has s.history.rows row ⊎ (frame_row ≡ row) → Has s.history.rows row
      by_case (inl old) = old
      by_case (inr new) =
          let its : next_entry_of s ≡ entry = ap (λ (r : Row). r.entry) new ∙ same in
          let low : entry.nr ≤ s.entries = numbered.own (ap (λ (e : EntryId). e.maker) (sym its)) in
          let high : s.entries + 1 ≡ entry.nr = ap (λ (e : EntryId). e.nr) its in
          absurd (omega (arith, low, high))

  there_before : (of : NavId) (place : Place) → place_of s of ≡ Some place → WereThere s.history.rows added.history.rows place.given
  there_before of place placed i row at given =
      get_of s.history.rows row (old_row row row.entry (given_numbered home run hand s tab ever of place row.entry placed given) refl (slice_has added.history.rows i row at))

  own_shows : (of : NavId) (place : Place) (face : Face) → place_of s of ≡ Some place → Some face.entry ≡ place.given → ShowsFace s.history.rows face → ShowsFace added.history.rows face
  own_shows of place face placed given shows i row at same =
      let was = there_before of place placed i row at (sym given ∙ ap (λ (x : EntryId). Some x) (sym same)) in
      shows was.0 row was.1 same

  -- one that has a place is another one
  another : (of : NavId) (p : Place) → place_of s of ≡ Some p → (nav.0 == p.nav.0) ≡ false
  another of p placed = by_test (nav.0 == p.nav.0) refl
    where
      by_test : (b : Bool) → (nav.0 == p.nav.0) ≡ b → (nav.0 == p.nav.0) ≡ false
      by_test false e = e
      by_test true e =
          let same : nav ≡ of = nav_is nav p.nav e ∙ place_nav s of p placed in
          let never : None ≡ Some p = sym unused ∙ (ap (λ (n : NavId). place_of s n) same ∙ placed) in absurd cc

  -- which has a row where it had one
  others_rows : (of : NavId) → (nav.0 == of.0) ≡ false → has_row of added.history.rows ≡ has_row of s.history.rows
  others_rows of apart = any_other (is_of of) s.history.rows frame_row apart

  taken_up : IsTakenUp home hand rest s added made (λ x. x)
  taken_up =
      record {
        desks = refl;
        documents = refl;
        nr = λ x. refl;
        nav = λ x. refl;
        proc = λ x. refl;
        view = λ x. refl;
        told = λ no_ x. refl;
        other_told = λ x apart. refl;
        push_told = λ push. absurd (let never : true ≡ false = sym push ∙ no_push made none in cc);
        list = take_list home run hand s event actor tab req q made change there makes first;
        were = were;
        had_row = λ of place doc placed wakes has. sym (others_rows place.nav (another of place (old_awake of place doc placed wakes))) ∙ has;
        gave = λ of place doc placed wakes. (framed.steady of place placed).gave doc wakes;
        had = had_by home s added tab.framed.documents stay;
        homes = λ doc x found. (tab.framed.documents doc x found).alive.proc;
        own_rows = λ of place face placed wakes given shows. subst (λ (f : Face). ShowsFace added.history.rows f) (sym (face_stays face made none)) (own_shows of place face placed given shows);
        other_rows = λ of place doc placed wakes apart. there_before of place placed;
      }

  -- ---- what is new

  new_state : (row : Row) → Has s.history.rows row → row.state ≡ next_state s → ⊥
  new_state row has same =
      let low : row.state.0 ≤ s.states = (tab.framed.stated.given row has).given in
      let high : row.state.0 ≡ s.states + 1 = ap (λ (x : StateId). x.0) same in
      omega (arith, low, high)

  new_to : (doc : DocId) (x : Document) → document_of s doc ≡ Some x → next_state s ≡ x.state → ⊥
  new_to doc x found same =
      let low : x.state.0 ≤ s.states = (tab.framed.stated.documents doc x found).given in
      let high : s.states + 1 ≡ x.state.0 = ap (λ (y : StateId). y.0) same in
      omega (arith, low, high)

  new_entry : (row : Row) → Has s.history.rows row → row.entry ≡ next_entry_of s → ⊥
  new_entry row has same =
      let low : row.entry.nr ≤ s.entries = (tab.framed.entries.of_row row has).own (ap (λ (e : EntryId). e.maker) same) in
      let high : row.entry.nr ≡ s.entries + 1 = ap (λ (e : EntryId). e.nr) same in
      omega (arith, low, high)

  bare : has_row nav s.history.rows ≡ false
  bare = by_test (has_row nav s.history.rows) refl
    where
      by_test : (b : Bool) → has_row nav s.history.rows ≡ b → b ≡ false
      by_test false e = refl
      by_test true e =
          let a : Passing (is_of nav) s.history.rows = any_has (is_of nav) s.history.rows e in
          let placed : IsPlaced (forms_of s.places) a.it = tab.hangs.rows.placed a.it a.there in
          let at : IsPlaceOf s.places a.it.nav placed.form = place_there s.places a.it.nav placed.form placed.found in
          let never : None ≡ Some at.place = sym unused ∙ (ap (λ (n : NavId). place_of s n) (sym (nav_is a.it.nav nav a.passes)) ∙ at.found) in absurd cc

  swept_row : (row : Row) → Has added.history.rows row → (doc : DocId) (x : Document) → document_of s doc ≡ Some x → row.state ≡ x.state → has_state x.state s.history.rows ≡ true
  swept_row row has doc x found state = by_case (has_more s.history.rows frame_row row has)
    where
      by_case : Has s.history.rows row ⊎ (frame_row ≡ row) → has_state x.state s.history.rows ≡ true
      by_case (inl old) = has_state_of s.history.rows row x.state old state
      by_case (inr new) = absurd (new_to doc x found (ap (λ (r : Row). r.state) new ∙ state))

  pub added_tab : IsTab home run rest added
  added_tab =
      record {
        framed = framed;
        sound = sound_added s.history d.state nav (next_entry_of s) (next_state s) tab.sound fit_parts.0 fit_parts.1 bare (none_entry s.history.rows (next_entry_of s) new_entry) new_state;
        hangs = applied_hangs s event actor req tab.sound tab.hangs change fit (λ row has same. new_state row has (ap (λ (n : ℕ). let x : StateId = record { 0 = n } in x) same));
        homes = added_homed s event actor req tab.homes d.state nav (next_entry_of s) (next_state s) unused;
        kept = applied_kept s event actor tab.kept req change (λ doc x found same. absurd (new_to doc x found same));
        ways = applied_ways s event actor req change tab.ways;
        rests = applied_rests s event actor tab.rests req change (no_new_states s added swept_row);
        flows = taken_if home hand rest s added made (λ x. x) taken_up tab.flows;
        once = take_once home run hand s event actor tab req q made change there makes first;
        known = take_known home run hand s event actor tab req q made change there makes first;
      }
