-- What a document made is applied: an entry is pushed, and those forward of it go. A document whose state lost its entries is that of a navigable which was given one of these, or of one below it, and the request has moved each such one.
use Rattle.leave_facts.proofs.Applied.{FitsWell}
use Rattle.tab_facts.specs.Calm.Calm.{AreRooted}
use Rattle.seen_facts.proofs.Coord.TakenUp.{once_pushed, push_is}
use Rattle.seen_facts.specs.Each.Mades.{IsNext}
use Rattle.seen_facts.specs.Entry.Entries.{IsItsOwn}
use Rattle.entry_store.specs.Store.{MayTake}
use Rattle.seen_facts.proofs.Hang.Forms.{nav_is}
use Rattle.seen_facts.proofs.Hang.Members.{Passing, any_has, has_any, has_more, into_filter, into_map, into_more}
use Rattle.seen_facts.proofs.Hang.Parts.{state_is}
use Rattle.seen_facts.proofs.Hang.Targets.{target_has}
use Rattle.seen_facts.specs.Hang.Forms.{forms_of}
use Rattle.seen_facts.specs.Hang.Members.{Has}
use Rattle.history_laws.proofs.Joining.{entry_same}
use Rattle.seen_facts.proofs.Home.Shown.{one_row}
use Rattle.tab_facts.proofs.Last.Applied.{pushed_lasting}
use Rattle.seen_facts.specs.LoadEnds.Standing.{is_reached}
use Rattle.log_model.proofs.Refl.{nat_eq_refl, same_entry_refl}
use Rattle.log_model.specs.AfterDocuments.{on_document}
use Rattle.log_model.specs.AfterPlaces.{given_entry, on_place, with_taker}
use Rattle.log_model.specs.AfterRequests.{entries_taken}
use Rattle.log_model.specs.Causes.{any_place}
use Rattle.log_model.specs.Equal.{holds}
use Rattle.log_model.specs.History.{cleared, fits, has_nav, has_row, has_state, is_of, owner_of, same_entry, target_entry}
use Rattle.log_model.specs.Once.{change_of_made}
use Rattle.log_model.specs.Places.{aim_of, has_arrived, is_below, is_given_target, is_shown, way_of, way_to, targets_state}
use Rattle.log_model.specs.Seen.{Document, Place, Seen, awake, document_of, place_of}
use Rattle.log_model.specs.declared.change.Change.{Change}
use Rattle.log_model.specs.declared.made.Made.{Made}
use Rattle.log_model.specs.declared.made.What.{What}
use Rattle.log_model.specs.declared.row.Row.{Row}
use Rattle.log_model.specs.declared.row_kind.RowKind.{RowKind}
use Rattle.seen_facts.specs.Mover.Movers.{IsMovedBy, moves_away, took_of}
use Rattle.seen_facts.specs.Place.Standing.{IsShownOnce}
use Rattle.seen_laws.specs.InEvent.{InEvent}
use Rattle.tab_facts.proofs.ShownWays.Cleared.{shown_left}
use Rattle.tab_facts.proofs.ShownWays.Keeps.{way_more}
use Rattle.std.proofs.Common.{Bool, List, None, Option, Some, [], ap, arith, cond, false, inl, inr, not, refl, subst, suc, sym, true, zero, ℕ, ◌&&◌, ◌+◌, ◌++◌, ◌<◌, ◌==◌, ◌||◌, ◌∙◌, ◌∷◌, ◌≡◌, ◌≤◌, ◌⊎◌}
use Rattle.std.proofs.lemmas.Bool.Decides.{nat_tests}
use Rattle.std.specs.List.{list_any}
use Rattle.std.specs.Option.{option_map_or}
use Rattle.std.specs.Prelude.{filter, nat_le, option_map}
use Rattle.sync_core.specs.declared.judging.Judged.TheVariants as verdicts
use Rattle.tab_facts.proofs.FrameTab.Aims.{others_pushed, own_pushed}
use Rattle.tab_rests.proofs.PassedOn.{EntriesAreNoted, IsBare, IsUnsettled, pushed_going, pushed_tab, sees, tab_placed}
use Rattle.tab_doors.specs.Dues.{IsTakeDue, MayChange, SeesRows}
use Rattle.tab_doors.specs.Ties.{IsAwakeIn}
use Rattle.tab_doors.specs.Working.{IsAtWork, KeepsRun}
use Rattle.tab_doors.specs.declared.tables.Tables.{Tables}
use Rattle.tab_rests.specs.PassedOn.{InPass, IsGoing, IsLoadOf, IsTab, MayStand, aim_in}
use Rattle.tab_ids.specs.declared.DocId.{DocId}
use Rattle.tab_ids.specs.declared.EntryId.{EntryId}
use Rattle.tab_ids.specs.declared.NavId.{NavId}
use Rattle.tab_ids.specs.declared.ReqId.{ReqId}
use Rattle.tab_ids.specs.declared.StateId.{StateId}
use Rattle.tab_takes.proofs.Applied.{IsAfter, aim_then, aim_was, has_applied, loads_back, n as after_change, own_then, then_q}
use Rattle.tab_takes.proofs.Asks.{unlike, what_is}
use Rattle.tab_takes.proofs.Entries.{entry_fresh, entry_later, entry_maker, entry_new, its_next, its_own, state_of_it}
use Rattle.tab_takes.proofs.Given.{WasDoc, become as become_of, become_same, given_at, place_then, read_doc, usable_then, was_doc}
use Rattle.tab_takes.proofs.Losing.{KeepsAt, Was, WasDocument, blamed_n, calm_on, parents_n, stand, takers_n, unmoved_n, was}
use Rattle.tab_takes.proofs.Now.{IsGivenHere, awake_in, due, e, given, has as has_it, here as is_here, may_change, now_, own, q, rest, take_due, to_take_up, wakes, whole}
use Rattle.tab_takes.proofs.Stays.{but_given}
use Rattle.tab_takes.proofs.Takens.{IsGone, loses, was_low}
use Rattle.tab_takes.proofs.Verdicts.{IsOfIt, Tells}
use Rattle.tab_takes.proofs.Walks.{reached_or_unsettled}
use Rattle.tab_takes.proofs.Ways.{IsTargetOf}
use Rattle.tab_takes.proofs.Where.{loads_same}
use Rattle.tab_takes.specs.Taking.{ArrivedWhere, HasTaken, IsArrived, IsToTake, LoadsArrived, asked_in}
use Rattle.seen_facts.proofs.Walk.Placed.{found_nav}
use Rattle.log_model.specs.declared.change.Change.TheVariants as changes
use Rattle.log_model.specs.declared.job.Why.TheVariants as whys
use Rattle.log_model.specs.declared.made.What.TheVariants as whats
use Rattle.log_model.specs.declared.row_kind.RowKind.TheVariants as rows

some_same : {A : Type 0} {a b : A} → (let o : Option A = Some a in o) ≡ Some b → a ≡ b
some_same e = cc

either : (a b : Bool) → b ≡ true → (a || b) ≡ true
either true b is = refl
either false b is = is

other_way : (a b : ℕ) → (a == b) ≡ false → (b == a) ≡ false
other_way a b apart = grind (arith, nat_tests, apart)

-- one of the navigables passes
any_nav : (f : NavId → Bool) (navs : List NavId) (x : NavId) → has_nav navs x ≡ true → f x ≡ true → list_any f navs ≡ true
any_nav f [] x has is = absurd cc
any_nav f (y ∷ navs) x has is = by_test (y.0 == x.0) refl has (λ h. any_nav f navs x h is)
  where
    by_test : (b : Bool) → (y.0 == x.0) ≡ b → (b || has_nav navs x) ≡ true → (has_nav navs x ≡ true → list_any f navs ≡ true) → (f y || list_any f navs) ≡ true
    by_test true same h more = ap (λ (b : Bool). b || list_any f navs) (ap f (nav_is y x same) ∙ is)
    by_test false apart h more = either (f y) (list_any f navs) (more h)

module _ (p : InPass) (out : List RowKind) (t : Tables) (blame : List (StateId × ReqId)) (made : Made) (at : IsToTake p out t blame made) (told : Tells p out t blame made at verdicts.Now) (nav : NavId) (entry : EntryId) (state : StateId) (address : List ℕ) (memo : Option (List ℕ)) (asked : asked_in t made ≡ Some (changes.Push nav entry state address memo)) where
  abbrev s : Seen
  s = now_ p out t blame made at told

  abbrev ev : InEvent
  ev = e p out t blame made at told

  abbrev its : IsOfIt p out t blame made at
  its = own p out t blame made at told

  abbrev tab : IsTab t.running p.loads p.hand s
  tab = whole p out t blame made at told

  abbrev left : List Made
  left = rest p out t blame made at told

  abbrev push : Change
  push = changes.Push its.d.nav entry its.d.state address memo

  push_is_own : changes.Push nav entry state address memo ≡ push
  push_is_own = unlike p out t blame made at told (changes.Push nav entry state address memo) asked push refl

  what : made.what ≡ whats.Push entry memo address
  what = what_is p out t blame made at told (changes.Push nav entry state address memo) asked

  maker : entry.maker ≡ made.doc.0
  maker = subst (λ (w : What). IsItsOwn made.doc w) what (its_own p out t blame made at told push)

  later : its.d.last_applied < entry.nr
  later = subst (λ (w : What). IsNext its.d.last_applied w) what (its_next p out t blame made at told push)

  fresh : (row : Row) → Has s.history.rows row → row.entry ≡ entry → ⊥
  fresh = entry_fresh p out t blame made at told push entry maker later

  abbrev here : IsGivenHere p out t blame made at told
  here = given p out t blame made at told

  -- ---- what the door asks

  fit : fits s.history push ≡ true
  fit =
      shown_left s.history (forms_of s.places) tab.sound tab.hangs.rows its.d.nav here.row (ap (λ (m : NavId). is_shown s.history.rows s.history.current m) (sym its.nav_is) ∙ (is_here p out t blame made at told).shown) here.at_

  numbers : MayTake s.history push
  numbers = (entry_new p out t blame made at told push entry maker later, state_of_it p out t blame made at told)

  abbrev n : Seen
  n = after_change p out t blame made at push

  abbrev new : Row
  new = record { owner = owner_of its.d.nav (cleared s.history); nav = its.d.nav; entry = entry; step = record { 0 = s.history.current + 1 }; state = its.d.state; address = address; memo = memo }

  tab_n : IsTab t.running p.loads left n
  tab_n =
      loads_same p out t blame made at n
      (pushed_tab t.running p.loads p.hand s ev.event ev.actor tab made.req made its.d entry memo address what (to_take_up p out t blame made at told push fit))

  going_n : IsGoing t.running p.loads left n
  going_n =
      pushed_going t.running p.loads p.hand s ev.event ev.actor at.passing.going made.req (q p out t blame made at told) at.taking.there at.taking.open_ its.d.nav entry its.d.state address memo p.loads left tab_n (pushed_lasting s ev.event ev.actor at.passing.going.lasting made.req its.d.nav entry its.d.state address memo fit)

  pub push_awake : IsAwakeIn t.tree nav (record { 0 = entry.maker })
  push_awake =
      let navs : nav ≡ its.d.nav = (let both : changes.Push nav entry state address memo ≡ push = push_is_own in cc) in
      subst (λ (m : NavId). IsAwakeIn t.tree m (record { 0 = entry.maker })) (sym navs) (awake_in p out t blame made at told (record { 0 = entry.maker }) (ap (λ (k : ℕ). let x : DocId = record { 0 = k } in x) maker))

  pub push_ready : IsTakeDue ev out made.req (changes.Push nav entry state address memo) × (MayChange s (changes.Push nav entry state address memo) × SeesRows s (changes.Push nav entry state address memo))
  push_ready =
      subst (λ (c : Change). IsTakeDue ev out made.req c × (MayChange s c × SeesRows s c)) (sym push_is_own) (
        take_due p out t blame made at told push (due p out t blame made at told push (ap (λ (w : What). change_of_made s its.d w) what)) fit (entry_later p out t blame made at told push entry maker later),
        (may_change p out t blame made at told push fit numbers, sees t.running p.loads p.hand s at.passing.going ev.event ev.actor made.req push going_n.steps),
      )

  pub push_of_document : (entry.maker == 0) ≡ false
  push_of_document = entry_maker p out t blame made at told push entry maker later

  -- ---- places

  places_now : n.places ≡ with_taker s.history n.history made.req (on_place its.d.nav (given_entry entry) s.places)
  places_now =
      (push_is made its.d.nav entry its.d.state address memo maker).places s made.req (q p out t blame made at told) at.taking.there at.taking.makes

  abbrev become : Place → Place
  become place = become_of s n n.history made.req its.d.nav entry places_now place

  place_n : (m : NavId) → place_of n m ≡ option_map become (place_of s m)
  place_n = place_then s n n.history made.req its.d.nav entry places_now

  alike : (place : Place) → but_given (become place) ≡ but_given place
  alike place =
      become_same s n n.history made.req its.d.nav entry places_now (λ (x : Place). but_given x) (λ x. refl) (λ x. refl) place

  given_as : (m : NavId) (place : Place) → place_of s m ≡ Some place → (become place).given ≡ cond (m.0 == its.d.nav.0) (Some entry) place.given
  given_as m place found =
      given_at s n n.history made.req its.d.nav entry places_now m (become place) (record { old = place; there = found; is = refl })
      ∙ ap (λ (x : NavId). let o : Option EntryId = cond (x.0 == its.d.nav.0) (Some entry) place.given in o) (found_nav s.places m place found)

  given_same : (m : NavId) (place : Place) → place_of s m ≡ Some place → (m.0 == its.d.nav.0) ≡ false → (become place).given ≡ place.given
  given_same m place found apart =
      given_as m place found ∙ ap (λ (b : Bool). let o : Option EntryId = cond b (Some entry) place.given in o) apart

  taken : (place : Place) → ((become place).taken_by ≡ place.taken_by) ⊎ ((become place).taken_by ≡ Some made.req)
  taken place =
      by_tests (place.nav.0 == its.d.nav.0) (has_row (let x : Place = cond (place.nav.0 == its.d.nav.0) (given_entry entry place) place in x).nav s.history.rows && not (has_row (let x : Place = cond (place.nav.0 == its.d.nav.0) (given_entry entry place) place in x).nav n.history.rows))
    where
      by_tests : (a b : Bool) → ((let y : Place = cond b (record (let x : Place = cond a (given_entry entry place) place in x) { taken_by = Some made.req }) (let x : Place = cond a (given_entry entry place) place in x) in y).taken_by ≡ place.taken_by) ⊎ ((let y : Place = cond b (record (let x : Place = cond a (given_entry entry place) place in x) { taken_by = Some made.req }) (let x : Place = cond a (given_entry entry place) place in x) in y).taken_by ≡ Some made.req)
      by_tests true true = inr refl
      by_tests false true = inr refl
      by_tests true false = inl refl
      by_tests false false = inl refl

  -- what it was ever given it was given still
  ever_on : (place : Place) (x : EntryId) → Has place.ever_given x → list_any (same_entry x) (become place).ever_given ≡ true
  ever_on place x has =
      by_tests (place.nav.0 == its.d.nav.0) (has_row (let z : Place = cond (place.nav.0 == its.d.nav.0) (given_entry entry place) place in z).nav s.history.rows && not (has_row (let z : Place = cond (place.nav.0 == its.d.nav.0) (given_entry entry place) place in z).nav n.history.rows))
    where
      had : list_any (same_entry x) place.ever_given ≡ true
      had = has_any (same_entry x) place.ever_given x has (same_entry_refl x)

      by_tests : (a b : Bool) → list_any (same_entry x) (let y : Place = cond b (record (let z : Place = cond a (given_entry entry place) place in z) { taken_by = Some made.req }) (let z : Place = cond a (given_entry entry place) place in z) in y).ever_given ≡ true
      by_tests true true = either (same_entry x entry) (list_any (same_entry x) place.ever_given) had
      by_tests false true = had
      by_tests true false = either (same_entry x entry) (list_any (same_entry x) place.ever_given) had
      by_tests false false = had

  abbrev WasAt : NavId → Place → Type 0
  WasAt m place = Was p out t blame made at push tab_n become place_n alike m place

  was_at : (m : NavId) (place : Place) → place_of n m ≡ Some place → WasAt m place
  was_at = was p out t blame made at push tab_n become place_n alike

  -- ---- rows

  row_is : (row : Row) → Has n.history.rows row → Has (cleared s.history) row ⊎ (new ≡ row)
  row_is row there = has_more (cleared s.history) new row there

  old_row : (row : Row) → Has (cleared s.history) row → Has s.history.rows row
  old_row row there = (was_low t.running p.loads p.hand s tab row there).0

  row_was : (m : NavId) → has_row m n.history.rows ≡ true → has_row m s.history.rows ≡ true
  row_was m has = by_row (row_is a.it a.there)
    where
      a : Passing (is_of m) n.history.rows
      a = any_has (is_of m) n.history.rows has

      by_row : Has (cleared s.history) a.it ⊎ (new ≡ a.it) → has_row m s.history.rows ≡ true
      by_row (inl there) = has_any (is_of m) s.history.rows a.it (old_row a.it there) a.passes
      by_row (inr same) =
          let navs : its.d.nav ≡ m = ap (λ (r : Row). r.nav) same ∙ nav_is a.it.nav m a.passes in
          ap (λ (x : NavId). has_row x s.history.rows) (sym navs) ∙ has_it p out t blame made at told

  -- who is another one has an entry of those left
  left_row : (m : NavId) → (its.d.nav.0 == m.0) ≡ false → has_row m n.history.rows ≡ true → has_row m (cleared s.history) ≡ true
  left_row m apart has = by_row (row_is a.it a.there)
    where
      a : Passing (is_of m) n.history.rows
      a = any_has (is_of m) n.history.rows has

      by_row : Has (cleared s.history) a.it ⊎ (new ≡ a.it) → has_row m (cleared s.history) ≡ true
      by_row (inl there) = has_any (is_of m) (cleared s.history) a.it there a.passes
      by_row (inr same) =
          let never : false ≡ true = sym apart ∙ ap (λ (r : Row). is_of m r) same ∙ a.passes in absurd cc

  target_other : (m : NavId) → (its.d.nav.0 == m.0) ≡ false → has_row m n.history.rows ≡ true → target_entry n.history.rows m n.history.current ≡ target_entry s.history.rows m s.history.current
  target_other m apart has =
      others_pushed s.history (forms_of s.places) tab.sound tab.hangs.rows new refl m apart (left_row m apart has)

  target_own : target_entry n.history.rows its.d.nav n.history.current ≡ Some new
  target_own = own_pushed s.history (forms_of s.places) tab.sound tab.hangs.rows new refl

  turned : (m : NavId) → (its.d.nav.0 == m.0) ≡ false → (m.0 == its.d.nav.0) ≡ false
  turned m apart = other_way its.d.nav.0 m.0 apart

  row_there : (m : NavId) (row : Row) → target_entry n.history.rows m n.history.current ≡ Some row → has_row m n.history.rows ≡ true
  row_there m row found =
      let tg = target_has n.history.rows m n.history.current row found in
      has_any (is_of m) n.history.rows row tg.there (ap (λ (y : NavId). y.0 == m.0) tg.nav_is ∙ nat_eq_refl m.0)

  keeps_now : KeepsAt s n become s.history.current n.history.current
  keeps_now =
      record {
        on = λ x row has found. on_ x row has found (its.d.nav.0 == x.0) refl;
        back = λ x row found. back_ x row found (its.d.nav.0 == x.0) refl;
        given = λ x place found has. given_ x place found has (its.d.nav.0 == x.0) refl;
      }
    where
      on_ : (x : NavId) (row : Row) → has_row x n.history.rows ≡ true → target_entry s.history.rows x s.history.current ≡ Some row → (b : Bool) → (its.d.nav.0 == x.0) ≡ b → IsTargetOf n.history.rows x n.history.current row.state
      on_ x row has found true same =
          let navs : its.d.nav ≡ x = nav_is its.d.nav x same in
          let rows_ : here.row ≡ row = some_same (sym here.at_ ∙ ap (λ (y : NavId). target_entry s.history.rows y s.history.current) navs ∙ found) in
          record { row = new; at = ap (λ (y : NavId). target_entry n.history.rows y n.history.current) (sym navs) ∙ target_own; state_is = sym here.state_is ∙ ap (λ (r : Row). r.state) rows_ }
      on_ x row has found false apart = record { row = row; at = target_other x apart has ∙ found; state_is = refl }

      back_ : (x : NavId) (row : Row) → target_entry n.history.rows x n.history.current ≡ Some row → (b : Bool) → (its.d.nav.0 == x.0) ≡ b → IsTargetOf s.history.rows x s.history.current row.state
      back_ x row found true same =
          let navs : its.d.nav ≡ x = nav_is its.d.nav x same in
          let rows_ : new ≡ row = some_same (sym target_own ∙ ap (λ (y : NavId). target_entry n.history.rows y n.history.current) navs ∙ found) in
          record { row = here.row; at = ap (λ (y : NavId). target_entry s.history.rows y s.history.current) (sym navs) ∙ here.at_; state_is = here.state_is ∙ ap (λ (r : Row). r.state) rows_ }
      back_ x row found false apart =
          record { row = row; at = sym (target_other x apart (row_there x row found)) ∙ found; state_is = refl }

      given_ : (x : NavId) (place : Place) → place_of s x ≡ Some place → has_row x n.history.rows ≡ true → (b : Bool) → (its.d.nav.0 == x.0) ≡ b → is_given_target n.history.rows n.history.current (become place) ≡ is_given_target s.history.rows s.history.current place
      given_ x place found has true same =
          let navs : its.d.nav ≡ x = nav_is its.d.nav x same in
          let places : its.place ≡ place = some_same (sym its.placed ∙ ap (λ (y : NavId). place_of s y) navs ∙ found) in
          let own_nav : (become place).nav ≡ its.d.nav = ap (λ (y : Place). y.nav) (alike place) ∙ found_nav s.places x place found ∙ sym navs in
          let own_given : (become place).given ≡ Some entry = given_as x place found ∙ ap (λ (b : Bool). let o : Option EntryId = cond b (Some entry) place.given in o) (ap (λ (y : NavId). y.0 == its.d.nav.0) (sym navs) ∙ nat_eq_refl its.d.nav.0) in
          ap (λ (y : NavId). holds (λ (row : Row). holds (same_entry row.entry) (become place).given) (target_entry n.history.rows y n.history.current)) own_nav
          ∙ ap (λ (o : Option Row). holds (λ (row : Row). holds (same_entry row.entry) (become place).given) o) target_own
          ∙ ap (λ (g : Option EntryId). holds (same_entry entry) g) own_given
          ∙ same_entry_refl entry
          ∙ sym (ap (λ (y : Place). is_given_target s.history.rows s.history.current y) (sym places) ∙ (is_here p out t blame made at told).target)
      given_ x place found has false apart =
          let its_nav : place.nav ≡ x = found_nav s.places x place found in
          ap (λ (y : NavId). holds (λ (row : Row). holds (same_entry row.entry) (become place).given) (target_entry n.history.rows y n.history.current)) (ap (λ (y : Place). y.nav) (alike place) ∙ its_nav)
          ∙ ap (λ (o : Option Row). holds (λ (row : Row). holds (same_entry row.entry) (become place).given) o) (target_other x apart has)
          ∙ ap (λ (g : Option EntryId). holds (λ (row : Row). holds (same_entry row.entry) g) (target_entry s.history.rows x s.history.current)) (given_same x place found (turned x apart))
          ∙ ap (λ (y : NavId). holds (λ (row : Row). holds (same_entry row.entry) place.given) (target_entry s.history.rows y s.history.current)) (sym its_nav)

  -- ---- loads

  arrived_n : LoadsArrived s → (r : ReqId) (m : NavId) → IsLoadOf n r m → (is_reached n m ≡ true) ⊎ (IsUnsettled n m ⊎ IsBare n m)
  arrived_n so r m load = by_row (has_row m n.history.rows) refl
    where
      was_load : IsLoadOf s r m
      was_load = loads_back p out t blame made at push r m load

      x : (y : Place) × (place_of s m ≡ Some y)
      x = tab_placed t.running p.loads p.hand s tab r m was_load

      all : has_row m n.history.rows ≡ true → (y : NavId) (own_ : Place) → has_nav (m ∷ (become x.0).above) y ≡ true → place_of n y ≡ Some own_ → IsArrived own_
      all has y own_ in_ there =
          let w = was_at y own_ there in
          let come : IsArrived w.old = so r m x.0 was_load (row_was m has) x.1 y w.old (ap (λ (z : Place). has_nav (m ∷ z.above) y) (sym (alike x.0)) ∙ in_) w.there in
          record { doc = come.doc; wakes = ap (λ (z : Place). z.status) (sym w.same) ∙ come.wakes; arrived = ap (λ (z : Place). has_arrived z) (sym w.same) ∙ come.arrived }

      by_case : (is_reached n m ≡ true) ⊎ IsUnsettled n m → (is_reached n m ≡ true) ⊎ (IsUnsettled n m ⊎ IsBare n m)
      by_case (inl is) = inl is
      by_case (inr is) = inr (inl is)

      by_row : (b : Bool) → has_row m n.history.rows ≡ b → (is_reached n m ≡ true) ⊎ (IsUnsettled n m ⊎ IsBare n m)
      by_row false is = inr (inr is)
      by_row true is =
          by_case (reached_or_unsettled t.running p.loads left n tab_n m (become x.0) (place_n m ∙ ap (option_map become) x.1) is (all is))

  loads_n : (run : Option ReqId) → aim_of n ≡ aim_in n.history run t.goal → aim_of s ≡ aim_in s.history run t.goal → ArrivedWhere run s → MayStand run s → MayStand run n
  loads_n None aim_n aim_s come so =
      stand p out t blame made at push tab_n become place_n alike s.history.current n.history.current aim_n aim_s keeps_now None row_was so
  loads_n (Some run) aim_n aim_s come so = arrived_n come

  -- ---- documents

  documents_now : n.documents ≡ on_document made.doc (once_pushed entry) s.documents
  documents_now = (push_is made its.d.nav entry its.d.state address memo maker).documents s.documents

  was_document : (doc : DocId) (d : Document) → document_of n doc ≡ Some d → WasDocument s doc d
  was_document doc d found =
      let w : WasDoc s n made.doc (once_pushed entry) (λ y. refl) documents_now doc d = was_doc s n made.doc (once_pushed entry) (λ y. refl) documents_now doc d found in
      record {
        old = w.old;
        there = w.there;
        state = read_doc s n made.doc (once_pushed entry) (λ y. refl) documents_now (λ (x : Document). x.state) (λ x. refl) doc d w;
        ready = read_doc s n made.doc (once_pushed entry) (λ y. refl) documents_now (λ (x : Document). x.is_ready) (λ x. refl) doc d w;
        discarded = read_doc s n made.doc (once_pushed entry) (λ y. refl) documents_now (λ (x : Document). x.is_discarded) (λ x. refl) doc d w;
      }

  -- ---- who lost entries was moved

  module _ (m : NavId) (place : Place) (found : place_of s m ≡ Some place) (g : IsGone t.running p.loads p.hand s tab (m ∷ place.above)) where
    ever : Has g.own.ever_given g.row.entry
    ever = by_epoch g.own.epoch.0 refl
      where
        of_once : IsShownOnce g.own → Has g.own.ever_given g.row.entry
        of_once is =
            let one : is.entry ≡ g.row.entry = some_same (sym is.given ∙ g.given) in
            subst (λ (x : EntryId). Has g.own.ever_given x) one is.ever

        by_epoch : (k : ℕ) → g.own.epoch.0 ≡ k → Has g.own.ever_given g.row.entry
        by_epoch zero is =
            let none : g.own.given ≡ None = ((tab.standing g.mover g.own g.there).told.0 is).given in
            let never : None ≡ Some g.row.entry = sym none ∙ g.given in absurd cc
        by_epoch (suc k) is = of_once ((tab.standing g.mover g.own g.there).told.1 (omega (arith, is)))

    unmatched : list_any (λ (r : Row). same_entry r.entry g.row.entry) n.history.rows ≡ false
    unmatched = by_test (list_any (λ (r : Row). same_entry r.entry g.row.entry) n.history.rows) refl
      where
        of_row : (r : Row) → same_entry r.entry g.row.entry ≡ true → Has (cleared s.history) r ⊎ (new ≡ r) → ⊥
        of_row r same (inl there) =
            let one : r ≡ g.row = one_row s.history.rows g.row r (tab.sound.entries g.row.entry) g.has (old_row r there) (entry_same r.entry g.row.entry same) in
            g.gone (subst (λ (x : Row). Has (cleared s.history) x) one there)
        of_row r same (inr is) =
            fresh g.row g.has (sym (entry_same r.entry g.row.entry same) ∙ ap (λ (x : Row). x.entry) (sym is))

        by_test : (b : Bool) → list_any (λ (r : Row). same_entry r.entry g.row.entry) n.history.rows ≡ b → b ≡ false
        by_test false is = refl
        by_test true is =
            let a : Passing (λ (r : Row). same_entry r.entry g.row.entry) n.history.rows = any_has (λ (r : Row). same_entry r.entry g.row.entry) n.history.rows is in
            absurd (of_row a.it a.passes (row_is a.it a.there))

    took : Has (entries_taken s.history push) g.row.entry
    took =
        into_map (λ (row : Row). row.entry) (filter (λ (row : Row). not (list_any (λ (r : Row). same_entry r.entry row.entry) n.history.rows)) s.history.rows) g.row
        (into_filter (λ (row : Row). not (list_any (λ (r : Row). same_entry r.entry row.entry) n.history.rows)) s.history.rows g.row g.has (ap not unmatched))

    took_it : took_of (then_q p out t blame made at push) (become g.own) ≡ true
    took_it =
        has_any (λ (x : EntryId). list_any (same_entry x) (become g.own).ever_given) (entries_taken s.history push) g.row.entry took (ever_on g.own g.row.entry ever)

    under_moved : (other : NavId) (under : Place) → place_of n other ≡ Some under → ((other.0 == m.0) ≡ true) ⊎ (is_below m under ≡ true) → IsMovedBy n (whys.Req made.req) other
    under_moved other under placed is =
        record { req = made.req; q = then_q p out t blame made at push; why = refl; there = own_then p out t blame made at push; moves = moves }
      where
        w : WasAt other under
        w = was_at other under placed

        way_n : way_to n other ≡ other ∷ w.old.above
        way_n =
            ap (λ (o : Option Place). option_map_or way_of o (other ∷ [])) placed
            ∙ ap (λ (x : Place). way_of x) (sym w.same)
            ∙ ap (λ (x : NavId). x ∷ w.old.above) (found_nav s.places other w.old w.there)

        by_which : ((other.0 == m.0) ≡ true) ⊎ (is_below m under ≡ true) → has_nav (other ∷ w.old.above) g.mover ≡ true
        by_which (inl same) =
            let named : other ≡ m = nav_is other m same in
            let one : w.old ≡ place = some_same (sym w.there ∙ ap (λ (x : NavId). place_of s x) named ∙ found) in
            ap (λ (x : NavId). has_nav (x ∷ w.old.above) g.mover) named ∙ ap (λ (x : Place). has_nav (m ∷ x.above) g.mover) one ∙ g.on_way
        by_which (inr below) =
            either (other.0 == g.mover.0) (has_nav w.old.above g.mover) (by_own (m.0 == g.mover.0) refl g.on_way)
          where
            in_ : has_nav w.old.above m ≡ true
            in_ = ap (λ (x : Place). has_nav x.above m) w.same ∙ below

            by_own : (b : Bool) → (m.0 == g.mover.0) ≡ b → (b || has_nav place.above g.mover) ≡ true → has_nav w.old.above g.mover ≡ true
            by_own true same h = ap (λ (x : NavId). has_nav w.old.above x) (sym (nav_is m g.mover same)) ∙ in_
            by_own false apart h =
                way_more s tab.sound tab.hangs other w.old w.there m place (either (other.0 == m.0) (has_nav w.old.above m) in_) found g.mover h

        takes : any_place n (way_to n other) (took_of (then_q p out t blame made at push)) ≡ true
        takes =
            ap (λ (l : List NavId). any_place n l (took_of (then_q p out t blame made at push))) way_n
            ∙ any_nav (λ (x : NavId). holds (took_of (then_q p out t blame made at push)) (place_of n x)) (other ∷ w.old.above) g.mover (by_which is) (ap (λ (o : Option Place). holds (took_of (then_q p out t blame made at push)) o) (place_n g.mover ∙ ap (option_map become) g.there) ∙ took_it)

        moves : moves_away n (then_q p out t blame made at push) other ≡ true
        moves = either _ (any_place n (way_to n other) (took_of (then_q p out t blame made at push))) takes

  -- whoever is awake on a document whose state lost its entries
  moved : (m : NavId) (place : Place) (doc : DocId) (d : Document) → place_of s m ≡ Some place → place.status ≡ awake doc → document_of s doc ≡ Some d → has_state d.state s.history.rows ≡ true → has_state d.state n.history.rows ≡ false → (other : NavId) (under : Place) → place_of n other ≡ Some under → ((other.0 == m.0) ≡ true) ⊎ (is_below m under ≡ true) → IsMovedBy n (whys.Req made.req) other
  moved m place doc d found wakes there had bare =
      under_moved m place found (loses t.running p.loads p.hand s tab at.open_.rooted m place doc d found wakes there had (by_test (has_state d.state (cleared s.history)) refl))
    where
      on_n : has_state d.state (cleared s.history) ≡ true → has_state d.state n.history.rows ≡ true
      on_n is =
          let a : Passing (λ (r : Row). r.state.0 == d.state.0) (cleared s.history) = any_has (λ (r : Row). r.state.0 == d.state.0) (cleared s.history) is in
          has_any (λ (r : Row). r.state.0 == d.state.0) n.history.rows a.it (into_more (cleared s.history) new a.it a.there) a.passes

      by_test : (b : Bool) → has_state d.state (cleared s.history) ≡ b → b ≡ false
      by_test false is = refl
      by_test true is = (let never : true ≡ false = sym (on_n is) ∙ bare in absurd cc)

  -- ---- what each was given

  rooted_n : AreRooted n
  rooted_n m place doc d found wakes there has =
      inr (a.it, a.there, state_is a.it.state d.state a.passes, by_row (row_is a.it a.there))
    where
      a : Passing (λ (r : Row). r.state.0 == d.state.0) n.history.rows
      a = any_has (λ (r : Row). r.state.0 == d.state.0) n.history.rows has

      by_row : Has (cleared s.history) a.it ⊎ (new ≡ a.it) → a.it.step.0 ≤ s.history.current + 1
      by_row (inl old) =
          (let low : nat_le a.it.step.0 s.history.current ≡ true = (was_low t.running p.loads p.hand s tab a.it old).1 in grind (arith, nat_tests, low))
      by_row (inr same) = subst (λ (r : Row). r.step.0 ≤ s.history.current + 1) same (omega arith)

  -- ---- whom requests leave

  -- the document state is that of its navigable's target
  keeps_state : targets_state s.history.rows s.history.current its.d.nav its.d.state ≡ true
  keeps_state = rw (here.at_) (ap (λ (x : StateId). x.0 == its.d.state.0) here.state_is ∙ nat_eq_refl its.d.state.0)

  well : FitsWell s push
  well =
      record {
        sound = tab.sound;
        hangs = tab.hangs;
        fit = fit;
        brings = λ row there same. tab.whose.whose made.doc its.d row its.found there (ap (λ (n : ℕ). let x : StateId = record { 0 = n } in x) same);
        then_sound = tab_n.sound;
      }

  module _ (noted : List (StateId × ReqId)) (are : EntriesAreNoted t made.req blame noted) where
    push_after : IsAfter p out t blame made at push noted
    push_after =
        record {
          tab_n = tab_n;
          going = going_n;
          parents = parents_n p out t blame made at push tab_n become place_n alike;
          takers = takers_n p out t blame made at push tab_n become place_n alike taken;
          loads = loads_n t.running (aim_then p out t blame made at push tab_n) (aim_was p out t blame made at push) at.arrived at.open_.loads;
          blamed = blamed_n p out t blame made at push tab_n become place_n alike was_document noted are moved;
          calm = calm_on p out t blame made at push tab_n become place_n alike row_was keeps_now t.running at.open_.calm;
          unmoved = unmoved_n p out t blame made at push tab_n become place_n alike row_was keeps_now;
          rooted = rooted_n;
          usable = usable_then s n made.doc (once_pushed entry) (λ y. refl) documents_now (λ state_ x. refl);
          well = well;
          keeps = keeps_state;
        }

    pub push_done : (more : List RowKind) (u : Tables) → more ≡ out ++ rows.Applied made.req (changes.Push nav entry state address memo) ∷ [] → KeepsRun t u → IsAtWork ev more u → HasTaken p t made out more u noted
    push_done more u out_is keeps work =
        has_applied p out t blame made at push noted push_after more u (out_is ∙ ap (λ (c : Change). out ++ rows.Applied made.req c ∷ []) push_is_own) keeps work refl refl
