-- All that holds in a tab of frames holds after an added frame is applied, of what a document made.
use Rattle.std.proofs.Common.{◌≡◌, ◌≢◌, ◌⊎◌, inl, inr, ℕ, ◌+◌, ◌≤◌, Bool, true, false, cond, not, ◌&&◌, ◌||◌, ◌==◌, List, [], ◌∷◌, ◌++◌, length, map, Option, Some, None, refl, sym, ap, ◌∙◌, subst, arith, append-nil}
use Rattle.std.specs.Prelude.{filter, fold, nat_le, option_and_then, if◌then◌else◌}
use Rattle.std.specs.List.{list_any}
use Rattle.std.specs.Option.{option_map_or}
use Rattle.std.proofs.lemmas.Bool.{eqb-true}
use Rattle.std.proofs.lemmas.List.Elements.{filter-append}
use Rattle.tab_ids.specs.declared.DocId.{DocId}
use Rattle.tab_ids.specs.declared.EntryId.{EntryId}
use Rattle.tab_ids.specs.declared.NavId.{NavId}
use Rattle.tab_ids.specs.declared.ProcId.{ProcId}
use Rattle.tab_ids.specs.declared.ReqId.{ReqId}
use Rattle.tab_ids.specs.declared.StateId.{StateId}
use Rattle.log_model.specs.declared.change.Change.{Change}
use Rattle.log_model.specs.declared.change.Change.TheVariants as changes
use Rattle.log_model.specs.declared.made.Made.{Made}
use Rattle.log_model.specs.declared.made.What.{What}
use Rattle.log_model.specs.declared.made.What.TheVariants as whats
use Rattle.log_model.specs.declared.outcome.Ending.TheVariants as endings
use Rattle.log_model.specs.declared.row.Row.{Row}
use Rattle.log_model.specs.declared.row_kind.Actor.{Actor}
use Rattle.log_model.specs.declared.row_kind.RowKind.TheVariants as rows
use Rattle.log_model.specs.Equal.{holds}
use Rattle.log_model.specs.History.{same_entry, is_of, has_row, first_step, later_row, target_entry, applied}
use Rattle.log_model.specs.After.{ended}
use Rattle.log_model.specs.AfterPlaces.{new_place, places_added, with_taker}
use Rattle.log_model.specs.AfterRequests.{entries_taken}
use Rattle.log_model.specs.Once.{next_state, next_entry_of}
use Rattle.log_model.specs.Places.{top, holder_of, is_given_target}
use Rattle.log_model.specs.Seen.{Seen, Document, Asked, Place, awake, asleep, document_of, place_in, place_of}
use Rattle.address.specs.Addresses.{blank_text}
use Rattle.seen_facts.proofs.Coord.Unread.{next}
use Rattle.std.proofs.lemmas.List.{map-id}
use Rattle.seen_facts.specs.Hang.Forms.{forms_of}
use Rattle.seen_facts.specs.Hang.Hanging.{BeginsBy, IsPlaced, Hangs}
use Rattle.seen_facts.proofs.Hang.Forms.{place_there}
use Rattle.seen_facts.specs.Each.Mades.{entry_after}
use Rattle.seen_facts.specs.Hang.Members.{Has}
use Rattle.seen_facts.proofs.Hang.Leasts.{first_least}
use Rattle.seen_facts.proofs.Hang.Members.{has_any, has_more, into_more, into_last}
use Rattle.seen_facts.specs.Home.Homes.{IsHomed, AreHomed, document_in}
use Rattle.log_model.proofs.Refl.{nat_eq_refl}
use Rattle.seen_laws.proofs.Keyed.{find_has}
use Rattle.seen_facts.proofs.Each.Courses.{runs_ended_other, runs_applied}
use Rattle.tab_facts.specs.FrameTab.Alive.{HasPlace}
use Rattle.tab_facts.specs.FrameTab.Numbers.{IsOfGivenState, IsOfItsRows, AreStated, IsNumbered}
use Rattle.tab_facts.specs.FrameTab.Steady.{IsSteady, AreSteady, AreGiven}
use Rattle.tab_facts.specs.FrameTab.Whole.{IsFrameTab}
use Rattle.tab_facts.proofs.FrameTab.Goings.{StaysAsked}
use Rattle.tab_facts.proofs.FrameTab.Plainly.{applied_reads}
use Rattle.tab_facts.proofs.FrameTab.Running.{moved_same}
use Rattle.tab_facts.proofs.FrameTab.Steadies.{steady_alike}
use Rattle.tab_facts.proofs.FrameTab.Going.{IsKnownEntry, entries_again}
use Rattle.tab_facts.proofs.FrameTab.Takings.{IsTaking, WasTaken, taken_framed, applied_stay}
use Rattle.tab_facts.proofs.FrameTab.Traversing.{applied_tooks}
use Rattle.tab_facts.proofs.FrameTab.Applying.{IsToTake}

some_same : {A : Type 0} {a b : A} → (let o : Option A = Some a in o) ≡ Some b → a ≡ b
some_same e = cc

-- a place more, in the end
place_more : (l : List Place) (new : Place) (nav : NavId) (p : Place) → place_in l nav ≡ Some p → place_in (l ++ new ∷ []) nav ≡ Some p
place_more [] new nav p e = absurd cc
place_more (x ∷ l) new nav p e = by_test (x.nav.0 == nav.0) (place_more l new nav p) e
  where
    by_test : (b : Bool) → (place_in l nav ≡ Some p → place_in (l ++ new ∷ []) nav ≡ Some p) → cond b (Some x) (place_in l nav) ≡ Some p → cond b (Some x) (place_in (l ++ new ∷ []) nav) ≡ Some p
    by_test true rest h = h
    by_test false rest h = rest h

place_or : (l : List Place) (new : Place) (nav : NavId) (p : Place) → place_in (l ++ new ∷ []) nav ≡ Some p → (place_in l nav ≡ Some p) ⊎ (new ≡ p)
place_or [] new nav p e = inr (only (new.nav.0 == nav.0) e)
  where
    only : (b : Bool) → (let o : Option Place = cond b (Some new) None in o) ≡ Some p → new ≡ p
    only true h = some_same h
    only false h = absurd cc
place_or (x ∷ l) new nav p e = by_test (x.nav.0 == nav.0) (place_or l new nav p) e
  where
    by_test : (b : Bool) → (place_in (l ++ new ∷ []) nav ≡ Some p → (place_in l nav ≡ Some p) ⊎ (new ≡ p)) → cond b (Some x) (place_in (l ++ new ∷ []) nav) ≡ Some p → (cond b (Some x) (place_in l nav) ≡ Some p) ⊎ (new ≡ p)
    by_test true rest h = inl h
    by_test false rest h = rest h

navs_more : (l : List Place) (new : Place) → map (λ (p : Place). p.nav) (l ++ new ∷ []) ≡ map (λ (p : Place). p.nav) l ++ new.nav ∷ []
navs_more [] new = refl
navs_more (x ∷ l) new = ap (λ (k : List NavId). x.nav ∷ k) (navs_more l new)

any_left : {A : Type 0} (test : A → Bool) (l : List A) (x : A) → list_any test l ≡ true → list_any test (l ++ x ∷ []) ≡ true
any_left test [] x e = absurd cc
any_left test (y ∷ l) x e = by_test (test y) (any_left test l x) e
  where
    by_test : (b : Bool) → (list_any test l ≡ true → list_any test (l ++ x ∷ []) ≡ true) → (b || list_any test l) ≡ true → (b || list_any test (l ++ x ∷ [])) ≡ true
    by_test true rest h = refl
    by_test false rest h = rest h

pub any_other : {A : Type 0} (test : A → Bool) (l : List A) (x : A) → test x ≡ false → list_any test (l ++ x ∷ []) ≡ list_any test l
any_other test [] x e = rw e refl
any_other test (y ∷ l) x e = ap (λ (b : Bool). test y || b) (any_other test l x e)

module _ (home : ProcId) (run : Option ReqId) (hand hand_ : List Made) (s : Seen) (event : ℕ) (actor : Actor) (tab : IsFrameTab home run hand s) (homes : AreHomed s) (hangs : Hangs s) (req : ReqId) (made : Made) (d : Document) (nav : NavId) (what : made.what ≡ whats.AddFrame nav) (take : IsToTake home run hand hand_ s (next s event actor (rows.Applied req (changes.AddFrame d.state nav (next_entry_of s) (next_state s)))) req (changes.AddFrame d.state nav (next_entry_of s) (next_state s)) made d) (parent : Place) (under : option_and_then (place_of s) (holder_of d.state s.history.rows) ≡ Some parent) (child : nav ≢ top) (unused : place_of s nav ≡ None) (holder : Row) (holds_it : Has s.history.rows holder) (its_state : holder.state ≡ d.state) where
  abbrev pub adding : Change
  adding = changes.AddFrame d.state nav (next_entry_of s) (next_state s)

  abbrev pub added : Seen
  added = next s event actor (rows.Applied req adding)

  abbrev frame_row : Row
  frame_row = record { owner = Some d.state; nav = nav; entry = next_entry_of s; step = record { 0 = first_step d.state s.history.rows }; state = next_state s; address = blank_text; memo = None }

  abbrev frame_place : Place
  frame_place = new_place req nav d.state parent

  -- nobody loses a row
  not_taken : (x : Place) → (let y : Place = cond (has_row x.nav s.history.rows && not (has_row x.nav (s.history.rows ++ frame_row ∷ []))) (record x { taken_by = Some req }) x in y) ≡ x
  not_taken x = by_test (has_row x.nav s.history.rows) (has_row x.nav (s.history.rows ++ frame_row ∷ [])) (λ e. any_left (is_of x.nav) s.history.rows frame_row e) refl
    where
      by_test : (b c : Bool) → (has_row x.nav s.history.rows ≡ true → c ≡ true) → has_row x.nav s.history.rows ≡ b → (let y : Place = cond (b && not c) (record x { taken_by = Some req }) x in y) ≡ x
      by_test true true on e = refl
      by_test true false on e = (let never : false ≡ true = on e in absurd cc)
      by_test false c on e = refl

  none_taken : (l : List Place) → with_taker s.history (applied s.history adding) req l ≡ l
  none_taken [] = refl
  none_taken (x ∷ l) =
      ap (λ (y : Place). y ∷ with_taker s.history (applied s.history adding) req l) (not_taken x) ∙ ap (λ (k : List Place). x ∷ k) (none_taken l)

  places_are : added.places ≡ s.places ++ frame_place ∷ []
  places_are =
      none_taken (places_added s req d.state nav)
      ∙ ap (λ (o : Option Place). option_map_or (λ (p : Place). s.places ++ new_place req nav d.state p ∷ []) o s.places) under

  either : (other : NavId) (p : Place) → place_of added other ≡ Some p → (place_of s other ≡ Some p) ⊎ (frame_place ≡ p)
  either other p there = place_or s.places frame_place other p (ap (λ (l : List Place). place_in l other) (sym places_are) ∙ there)

  -- another navigable than the new one
  another : (other : NavId) (p : Place) → place_of s other ≡ Some p → (nav.0 == p.nav.0) ≡ false
  another other p there = by_test (nav.0 == p.nav.0) refl
    where
      by_test : (b : Bool) → (nav.0 == p.nav.0) ≡ b → (nav.0 == p.nav.0) ≡ false
      by_test false e = e
      by_test true e =
          let n : p.nav.0 ≡ other.0 = find_has (λ (x : Place). x.nav.0) other.0 s.places p there in
          let m : nav.0 ≡ p.nav.0 = eqb-true nav.0 p.nav.0 e in
          let same : nav ≡ other = ap (λ (n : ℕ). let x : NavId = record { 0 = n } in x) (m ∙ n) in
          let never : None ≡ Some p = sym unused ∙ (ap (λ (x : NavId). place_of s x) same ∙ there) in absurd cc

  -- no row was the new navigable's
  no_row : (row : Row) → Has s.history.rows row → row.nav ≡ nav → ⊥
  no_row row there same =
      let p : IsPlaced (forms_of s.places) row = hangs.rows.placed row there in
      let at = place_there s.places row.nav p.form p.found in
      let never : None ≡ Some at.place = sym unused ∙ (ap (λ (n : NavId). place_of s n) (sym same) ∙ at.found) in absurd cc

  others_rows : (other : NavId) → (nav.0 == other.0) ≡ false → has_row other added.history.rows ≡ has_row other s.history.rows
  others_rows other apart = any_other (is_of other) s.history.rows frame_row apart

  its_row : has_row nav added.history.rows ≡ true
  its_row = has_any (is_of nav) added.history.rows frame_row (into_last s.history.rows frame_row) (nat_eq_refl nav.0)

  now : StaysAsked added.requests req take.q
  now = applied_stay s event actor req adding req take.q take.there

  new_steady : IsSteady added frame_place
  new_steady =
      record {
        unlost = λ never. absurd cc;
        unpending = refl;
        met = refl;
        shown = λ doc never. absurd cc;
        gave = λ doc never. absurd cc;
        unshown = λ sleeps has. record { epoch = refl; given = refl; last = refl };
        taken = λ none. (let never : true ≡ false = sym its_row ∙ none in absurd cc);
        moved = λ doc never high. absurd cc;
        added = λ child_. (let n : StaysAsked added.requests req take.q = applied_stay s event actor req adding req take.q take.there in record { req = req; is = refl; q = n.new; there = n.there });
      }

  steady_added : AreSteady added
  steady_added other p there = by_case (either other p there)
    where
      by_case : (place_of s other ≡ Some p) ⊎ (frame_place ≡ p) → IsSteady added p
      by_case (inl old) = steady_alike s added p p (applied_stay s event actor req adding) (others_rows p.nav (another other p old)) refl (tab.steady other p old)
      by_case (inr new) = subst (λ (x : Place). IsSteady added x) new new_steady

  -- ---- what was made

  taking : IsTaking home run hand hand_ s added req adding made d
  taking =
      record {
        other = take.other;
        found = take.here.found;
        own = take.own;
        change_is = take.change_is;
        list = take.list;
        waits = take.waits;
        keep = λ n has. record { place = has.place; found = ap (λ (l : List Place). place_in l n) places_are ∙ place_more s.places frame_place n has.place has.found };
        placed = λ n p found. record { new = p; found = ap (λ (l : List Place). place_in l n) places_are ∙ place_more s.places frame_place n p found; epoch = omega arith };
        were = were;
        had_row = λ n p doc there wakes has. by_place n p doc wakes has (either n p there);
      }
    where
      same_after : (old : EntryId) (b : Bool) → old ≡ (if b then entry_after old made.what else old)
      same_after old true = sym (ap (λ (w : What). entry_after old w) what)
      same_after old false = refl

      -- the new one is asleep
      by_place : (n : NavId) (p : Place) (doc : DocId) → p.status ≡ awake doc → has_row p.nav added.history.rows ≡ true → (place_of s n ≡ Some p) ⊎ (frame_place ≡ p) → has_row p.nav s.history.rows ≡ true
      by_place n p doc wakes has (inl old) = sym (others_rows p.nav (another n p old)) ∙ has
      by_place n p doc wakes has (inr new) = (let never : asleep ≡ awake doc = ap (λ (x : Place). x.status) new ∙ wakes in absurd cc)

      were : (n : NavId) (p : Place) (doc : DocId) → place_of added n ≡ Some p → p.status ≡ awake doc → WasTaken s made n p doc
      were n p doc there wakes = by_case (either n p there)
        where
          by_case : (place_of s n ≡ Some p) ⊎ (frame_place ≡ p) → WasTaken s made n p doc
          by_case (inl old) =
              record { before = p; there = old; status = wakes; epoch = refl; given = λ given is. (given, is, same_after given (made.doc.0 == doc.0)); under = λ its. under_of old its }
            where
              under_of : place_of s n ≡ Some p → (made.doc.0 == doc.0) ≡ true → (made.epoch.0 == p.epoch.0) ≡ true
              under_of at its =
                  let h : IsHomed s.documents p doc = homes.homed n p doc at wakes in
                  let m : made.doc.0 ≡ doc.0 = eqb-true made.doc.0 doc.0 its in
                  let docs : made.doc ≡ doc = ap (λ (i : ℕ). let y : DocId = record { 0 = i } in y) m in
                  let one : d ≡ h.home.document = some_same (sym take.here.found ∙ (ap (λ (y : DocId). document_of s y) docs ∙ h.home.found)) in
                  let navs : p.nav ≡ d.nav = sym h.home.nav_is ∙ ap (λ (y : Document). y.nav) (sym one) in
                  let number : p.nav.0 ≡ n.0 = find_has (λ (x : Place). x.nav.0) n.0 s.places p at in
                  let itself : n ≡ d.nav = ap (λ (i : ℕ). let y : NavId = record { 0 = i } in y) (sym number) ∙ navs in
                  let places : Some p ≡ Some take.here.place = sym at ∙ (ap (λ (x : NavId). place_of s x) itself ∙ take.here.placed) in
                  let same : p ≡ take.here.place = some_same places in
                  subst (λ (x : Place). (made.epoch.0 == x.epoch.0) ≡ true) (sym same) take.here.under
          by_case (inr new) = (let never : asleep ≡ awake doc = ap (λ (x : Place). x.status) new ∙ wakes in absurd cc)

  -- ---- document states

  stated_added : AreStated added
  stated_added =
      record {
        one = λ a b here there same. by_both a b (has_more s.history.rows frame_row a here) (has_more s.history.rows frame_row b there) same;
        begins = λ row there. by_begins row (has_more s.history.rows frame_row row there);
        given = λ row there. by_given row (has_more s.history.rows frame_row row there);
        documents = λ doc x found. subst (λ (l : List Document). document_in l doc ≡ Some x → IsOfItsRows added.history.rows added.states x) (sym documents_id) (λ old. by_document doc x old) found;
        listed = ap (λ (l : List Place). map (λ (p : Place). p.nav) l) places_are ∙ navs_more s.places frame_place ∙ ap (λ (l : List NavId). l ++ nav ∷ []) tab.stated.listed;
      }
    where
      documents_id : added.documents ≡ s.documents
      documents_id = map-id s.documents

      by_both : (a b : Row) → Has s.history.rows a ⊎ (frame_row ≡ a) → Has s.history.rows b ⊎ (frame_row ≡ b) → a.nav ≡ b.nav → a.state ≡ b.state
      by_both a b (inl x) (inl y) same = tab.stated.one a b x y same
      by_both a b (inl x) (inr y) same = absurd (no_row a x (same ∙ ap (λ (r : Row). r.nav) (sym y)))
      by_both a b (inr x) (inl y) same = absurd (no_row b y (sym same ∙ ap (λ (r : Row). r.nav) (sym x)))
      by_both a b (inr x) (inr y) same = ap (λ (r : Row). r.state) (sym x) ∙ ap (λ (r : Row). r.state) y

      by_begins : (row : Row) → Has s.history.rows row ⊎ (frame_row ≡ row) → BeginsBy added.history.rows row.nav 0
      by_begins row (inl old) = (let b : BeginsBy s.history.rows row.nav 0 = tab.stated.begins row old in record { row = b.row; there = into_more s.history.rows frame_row b.row b.there; nav_is = b.nav_is; by = b.by })
      by_begins row (inr new) =
          let b : BeginsBy s.history.rows holder.nav 0 = tab.stated.begins holder holds_it in
          let state : b.row.state ≡ d.state = tab.stated.one b.row holder b.there holds_it b.nav_is ∙ its_state in
          let yes : (b.row.state.0 == d.state.0) ≡ true = subst (λ (n : StateId). (n.0 == d.state.0) ≡ true) (sym state) (nat_eq_refl d.state.0) in
          let least : first_step d.state s.history.rows ≤ b.row.step.0 = first_least d.state s.history.rows b.row b.there yes in
          let low : b.row.step.0 ≤ 0 = b.by in
          record { row = frame_row; there = into_last s.history.rows frame_row; nav_is = ap (λ (r : Row). r.nav) new; by = omega (arith, least, low) }

      by_given : (row : Row) → Has s.history.rows row ⊎ (frame_row ≡ row) → IsOfGivenState added.states added.initial_states row
      by_given row (inl old) =
          let is : IsOfGivenState s.states s.initial_states row = tab.stated.given row old in
          let low : row.state.0 ≤ s.states = is.given in
          record { real = is.real; given = omega (arith, low); blank = λ child_. any_left (λ (i : StateId). i.0 == row.state.0) s.initial_states (next_state s) (is.blank child_) }
      by_given row (inr new) =
          subst (λ (r : Row). IsOfGivenState added.states added.initial_states r) new
          (record {
            real = (let r : 1 ≤ s.states + 1 = omega arith in r);
            given = (let r : s.states + 1 ≤ s.states + 1 = omega arith in r);
            blank = λ child_. has_any (λ (i : StateId). i.0 == (s.states + 1)) (s.initial_states ++ next_state s ∷ []) (next_state s) (into_last s.initial_states (next_state s)) (nat_eq_refl (s.states + 1));
          })

      by_document : (doc : DocId) (x : Document) → document_of s doc ≡ Some x → IsOfItsRows added.history.rows added.states x
      by_document doc x found =
          let is : IsOfItsRows s.history.rows s.states x = tab.stated.documents doc x found in
          let low : x.state.0 ≤ s.states = is.given in
          record {
            rows_ = λ row there same. by_row is row (has_more s.history.rows frame_row row there) same;
            given = omega (arith, low);
          }
        where
          by_row : IsOfItsRows s.history.rows s.states x → (row : Row) → Has s.history.rows row ⊎ (frame_row ≡ row) → row.nav ≡ x.nav → row.state ≡ x.state
          by_row is row (inl old) same = is.rows_ row old same
          by_row is row (inr new) same =
              let has : HasPlace s.places x.nav = (tab.documents doc x found).placed in
              let navs : nav ≡ x.nav = ap (λ (r : Row). r.nav) new ∙ same in
              let never : None ≡ Some has.place = sym unused ∙ (ap (λ (n : NavId). place_of s n) navs ∙ has.found) in absurd cc

  -- ---- entries

  numbered_added : (entry : EntryId) → IsNumbered s.entries (length s.documents) s.documents entry → IsNumbered added.entries (length added.documents) added.documents entry
  numbered_added entry is =
      subst (λ (l : List Document). IsNumbered added.entries (length l) l entry) (sym (map-id s.documents))
      (record { own = λ zero. (let low : entry.nr ≤ s.entries = is.own zero in omega (arith, low)); maker = is.maker; applied = is.applied })

  new_numbered : IsNumbered added.entries (length added.documents) added.documents (next_entry_of s)
  new_numbered =
      subst (λ (l : List Document). IsNumbered added.entries (length l) l (next_entry_of s)) (sym (map-id s.documents))
      (record {
        own = λ zero. (let r : s.entries + 1 ≤ s.entries + 1 = omega arith in r);
        maker = (let r : 0 ≤ length s.documents = omega arith in r);
        applied = λ doc x found maker. (let real : 1 ≤ x.nr.0 = (tab.documents doc x found).real in let zero : 0 ≡ x.nr.0 = maker in absurd (omega (arith, real, zero)));
      })

  -- ---- what is given

  same_target : (other : NavId) → (nav.0 == other.0) ≡ false → target_entry added.history.rows other s.history.current ≡ target_entry s.history.rows other s.history.current
  same_target other apart =
      ap (λ (l : List Row). fold later_row None l)
      (filter-append (λ (row : Row). is_of other row && nat_le row.step.0 s.history.current) s.history.rows (frame_row ∷ [])
      ∙ (let one : filter (λ (row : Row). is_of other row && nat_le row.step.0 s.history.current) s.history.rows ++ filter (λ (row : Row). is_of other row && nat_le row.step.0 s.history.current) (frame_row ∷ []) ≡ filter (λ (row : Row). is_of other row && nat_le row.step.0 s.history.current) s.history.rows ++ [] = rw apart refl in one)
      ∙ append-nil (filter (λ (row : Row). is_of other row && nat_le row.step.0 s.history.current) s.history.rows))

  given_added : AreGiven added
  given_added other p doc there wakes has unmoved = by_case (either other p there)
    where
      by_case : (place_of s other ≡ Some p) ⊎ (frame_place ≡ p) → is_given_target added.history.rows s.history.current p ≡ true
      by_case (inl old) =
          ap (λ (o : Option Row). holds (λ (row : Row). holds (same_entry row.entry) p.given) o) (same_target p.nav (another other p old))
          ∙ tab.given other p doc old wakes (sym (others_rows p.nav (another other p old)) ∙ has)
          (sym (moved_same run s.requests added.requests p.nav tab.asked.only (runs_applied run (ended s.requests req endings.Applied) req adding (entries_taken s.history adding) (runs_ended_other run s.requests req endings.Applied take.other tab.asked.only)) (applied_reads (λ (q : Asked). q.moved) s.requests req adding (entries_taken s.history adding) (λ q. refl) (λ q. refl) (λ q. refl))) ∙ unmoved)
      by_case (inr new) = (let never : asleep ≡ awake doc = ap (λ (x : Place). x.status) new ∙ wakes in absurd cc)

  pub added_framed : IsFrameTab home run hand_ added
  added_framed =
      taken_framed home run hand hand_ s event actor tab req adding made d taking steady_added stated_added
      (entries_again (IsNumbered s.entries (length s.documents) s.documents) (IsNumbered added.entries (length added.documents) added.documents) s added numbered_added
      (λ row there. of_row row (has_more s.history.rows frame_row row there))
      (λ n p entry there has. given_of n p entry (either n p there) has)
      (λ r q entry there has. inl (applied_tooks s event actor req adding r q entry there has)) tab.entries)
      given_added
    where
      of_row : (row : Row) → Has s.history.rows row ⊎ (frame_row ≡ row) → IsKnownEntry s row.entry ⊎ IsNumbered added.entries (length added.documents) added.documents row.entry
      of_row row (inl old) = inl (inl (record { row = row; there = old; is = refl }))
      of_row row (inr new) = inr (subst (λ (r : Row). IsNumbered added.entries (length added.documents) added.documents r.entry) new new_numbered)

      given_of : (n : NavId) (p : Place) (entry : EntryId) → (place_of s n ≡ Some p) ⊎ (frame_place ≡ p) → Has p.ever_given entry → IsKnownEntry s entry ⊎ IsNumbered added.entries (length added.documents) added.documents entry
      given_of n p entry (inl old) has = inl (inr (inl (record { nav = n; place = p; there = old; has = has })))
      given_of n p entry (inr new) has = absurd (subst (λ (x : Place). Has x.ever_given entry) (sym new) has)
