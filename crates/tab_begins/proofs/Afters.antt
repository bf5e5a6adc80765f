-- Right after a load was applied where all stood: its navigable is in need, nobody is but it and those below, and who isn't below it stands where it stood.
use Rattle.seen_facts.proofs.Request.LookUps.{on_itself}
use Rattle.tab_one_pass.proofs.Gives.{load_leaver, still_on}
use Rattle.tab_one_pass.proofs.Lefts.{MayLeaveNav, load_leaves}
use Rattle.seen_laws.proofs.InEvents.{now_at}
use Rattle.tab_facts.specs.Frame.Lasting.{wish}
use Rattle.seen_facts.proofs.Request.Readers.{SameReads, on_read, reads_then}
use Rattle.log_model.specs.Equal.{has_req}
use Rattle.tab_applies.proofs.PassedOn.{still_joined}
use Rattle.tab_facts.proofs.Calm.Around.{usable_found}
use Rattle.tab_facts.proofs.Calm.Awakes.{calm_stood, lost_none, stand_each}
use Rattle.tab_facts.proofs.Calm.Changes.{changed_but, push_childless, replace_childless}
use Rattle.tab_facts.proofs.Calm.Sames.{IsUsableAt, SameSights, Sight, sight_of}
use Rattle.tab_facts.specs.Calm.Calm.{HasUsable, IsCalmAround}
use Rattle.tab_begins.proofs.Standings.{all_of, in_place, met_none, none_of, third}
use Rattle.tab_ids.specs.declared.DocId.{DocId}
pub use Rattle.tab_one_pass.specs.Passing.{KeepsAwake, MayServe, ParentsShown, TakersServe}
use Rattle.row_facts.specs.Left.Left.{WereShown}
use Rattle.row_facts.proofs.Left.Rows.{were_shown}
use Rattle.tab_one_pass.specs.Passing.{AreUnheld, HasPassed, IsLoadOf, IsOpen, MayCause, LeavesVisited}
use Rattle.row_facts.proofs.RestRows.Shown.{applied_awake}
use Rattle.seen_facts.proofs.Mover.Places.{ways_both, ways_mapped}
use Rattle.seen_facts.proofs.Mover.Stays.{KeepWays}
pub use Rattle.tab_one_pass.proofs.Passes.{goes_on}
use Rattle.tab_one_pass.proofs.Stands.{IsReachedAt, reached_at}
use Rattle.log_model.specs.declared.request.Request.{Request}
use Rattle.row_facts.proofs.Owed.Requests.{req_same}
use Rattle.std.specs.Option.{option_map_or}
use Rattle.row_facts.proofs.WalkRows.Moved.{changed_moves}
use Rattle.seen_facts.specs.Mover.Movers.{IsMovedBy}
use Rattle.seen_facts.specs.Load.Loading.{look, look_of}
use Rattle.log_model.specs.AfterRequests.{entries_taken, on_request}
use Rattle.log_model.specs.Causes.{nav_of_change}
use Rattle.tab_one_pass.specs.PassedOn.{IsLoadApplied, IsBelowNav, StandOr, IsTab}
use Rattle.tab_one_pass.proofs.PassedOn.{load_applied, open_of, sole_load}
pub use Rattle.tab_one_pass.proofs.PassedOn.{stand_reached, at_most_once, fresh}
use Rattle.tab_one_pass.proofs.Dropped.{IsAskedFor, asked_for, load_now}
use Rattle.seen_facts.specs.Asked.Asking.{ArePlain}
use Rattle.seen_facts.proofs.Coord.Applied.{AreDocuments, all_pushed, all_replaced, push_places, replace_places}
use Rattle.seen_facts.proofs.Coord.Held.{on_else, without_same}
use Rattle.seen_facts.specs.Load.Loading.{IsLoading, Look, is_ongoing}
use Rattle.seen_facts.specs.LoadWhereabouts.Whereabouts.{times_on_way}
use Rattle.seen_facts.proofs.Request.Times.{times_none}
use Rattle.seen_facts.proofs.Coord.Unread.{next}
use Rattle.seen_facts.proofs.Hang.Forms.{nav_is}
use Rattle.seen_facts.proofs.Hang.Hung.{has_begun, not_above_itself}
use Rattle.seen_facts.proofs.Hang.Members.{find_has, has_any, has_found}
use Rattle.seen_facts.specs.Hang.Members.{Has}
use Rattle.log_model.specs.AfterDocuments.{applied_to, told_after_change}
use Rattle.std.proofs.lemmas.Bool.Decides.{nat_tests}
use Rattle.seen_facts.proofs.Hang.Targets.{IsTarget, target_has}
use Rattle.history_laws.proofs.Joining.{entry_same}
use Rattle.load_doors.specs.Applying.{new_entry}
use Rattle.seen_facts.specs.LoadEnds.Standing.{is_reached, LoadsStand}
use Rattle.load_table.specs.Loads.{ongoing_load}
use Rattle.load_table.specs.declared.load.Load.{Load}
use Rattle.log_model.proofs.Refl.{nat_eq_refl}
use Rattle.log_model.specs.AfterPlaces.{places_applied, with_taker}
use Rattle.log_model.specs.Equal.{holds}
use Rattle.log_model.specs.History.{History, applied, cleared, has_nav, has_row, has_state, owner_of, same_entry, target_entry}
use Rattle.log_model.specs.Places.{aim_of, all_stand, has_arrived, is_asleep, is_given_target, is_lost_in, is_placed, is_shown, is_standing, stands, is_load, way_of, way_to}
use Rattle.log_model.specs.Seen.{Asked, Document, Place, Seen, place_in, place_of, request_of}
use Rattle.log_model.specs.declared.change.Change.{Change}
use Rattle.log_model.specs.declared.row.Row.{Row}
use Rattle.log_model.specs.declared.row_kind.RowKind.{RowKind}
use Rattle.navigate_core.specs.Navigations.{change_for}
use Rattle.seen_laws.proofs.Keyed.{find_map}
use Rattle.seen_laws.specs.InEvent.{InEvent, now_of}
use Rattle.tab_facts.proofs.ShownWays.Changes.{push_keeps, push_left, push_own, replace_left, replace_new, replace_own, replace_targets}
use Rattle.tab_facts.proofs.ShownWays.Keeps.{shown_on_way, shown_then, shown_was, way_more, way_there}
use Rattle.tab_facts.specs.ShownWays.Ways.{KeepsTargets, hanging}
use Rattle.std.proofs.Common.{Bool, List, None, Option, Some, [], ap, arith, cond, false, if◌then◌else◌, map, not, refl, subst, sym, true, ℕ, ◌&&◌, ◌+◌, ◌==◌, ◌||◌, ◌∙◌, ◌∷◌, ◌≡◌, ◌≤◌, ◌<◌, inl, inr, ◌⊎◌}
use Rattle.std.proofs.lemmas.Bool.{and_parts}
use Rattle.std.specs.List.{list_any}
use Rattle.std.specs.Prelude.{find, is_some, option_map}
use Rattle.load_doors.specs.Applying.{IsApplyDue}
use Rattle.log_model.specs.Orders.{is_usable}
use Rattle.tab_ids.specs.declared.DocId.{DocId}
use Rattle.tab_facts.specs.FrameWhole.Tab.{AreAwakeWithRows}
use Rattle.tab_applies.proofs.Dues.{IsGivenAt, aim_now, apply_due, given, loading, next_is, own_nav, tab, tie, open_, what_is}
use Rattle.tab_applies.specs.Applying.{HasApplied, MayApply}
use Rattle.tab_doors.specs.declared.tables.Tables.{Tables}
use Rattle.tab_turns.proofs.Turned.{HasSetOut, started_out}
use Rattle.tab_ids.specs.declared.EntryId.{EntryId}
use Rattle.tab_ids.specs.declared.NavId.{NavId}
use Rattle.tab_ids.specs.declared.ReqId.{ReqId}
use Rattle.tab_ids.specs.declared.StateId.{StateId}
pub use Rattle.tab_one_pass.proofs.Calms.{aim_is}
pub use Rattle.tab_one_pass.specs.PassedOn.{InPass, IsPassing}
use Rattle.seen_facts.proofs.Walk.Placed.{found_nav}
use Rattle.seen_facts.specs.Walk.Serving.{is_in_place, is_needing, is_stopping}
use Rattle.row_facts.specs.WalkRows.Since.{IsVisitedInNeed, MovesVisited}
use Rattle.log_model.specs.declared.change.Change.TheVariants as changes
use Rattle.log_model.specs.declared.job.Why.TheVariants as whys
use Rattle.log_model.specs.declared.outcome.Ending.TheVariants as endings
use Rattle.log_model.specs.declared.request.Request.TheVariants as requests
use Rattle.log_model.specs.declared.row_kind.RowKind.TheVariants as rows
use Rattle.log_model.specs.Once.{loads as loads_nav}

-- ---- the load that was applied

module _ (p : InPass) (out : List RowKind) (t : Tables) (passing : IsPassing p out t) (nav : NavId) (load : Load) (at : ongoing_load nav t.loads ≡ Some load) (idle : t.running ≡ None) (may : MayApply p.event (now_of p.event out) nav load) (more : List RowKind) (u : Tables) (then_ : IsPassing p more u) (it : HasApplied p.event nav load out more t u) where
  abbrev e : InEvent
  e = p.event

  abbrev s : Seen
  s = now_of e out

  abbrev n : Seen
  n = now_of e more

  abbrev now : ℕ
  now = s.history.current

  pub tab_s : IsTab None p.loads p.hand s
  tab_s = tab p out t passing nav load at idle may

  pub tab_n : IsTab u.running p.loads p.hand n
  tab_n = then_.going.tab

  -- where it stood
  pub here : IsGivenAt s nav
  here = given p out t passing nav load at idle may

  own_place : it.place ≡ here.place
  own_place = let two : Some it.place ≡ Some here.place = sym it.placed ∙ here.placed in cc

  over_target : it.over ≡ here.target.entry
  over_target =
      let two : Some it.over ≡ Some here.target.entry = sym it.given ∙ ap (λ (q : Place). q.given) own_place ∙ here.given in cc

  own : load.nav ≡ nav
  own = own_nav p out t passing nav load at idle may

  aim_was : aim_of s ≡ now
  aim_was = aim_now p out t passing nav load at idle may

  idle_then : u.running ≡ None
  idle_then = it.keeps.running ∙ idle

  pub aim_then : aim_of n ≡ n.history.current
  aim_then =
      aim_is n None (subst (λ (r : Option ReqId). ArePlain r n) idle_then tab_n.asked) u.goal (λ r q never found. absurd (let no_ : None ≡ Some r = never in cc))

  abbrev change : Change
  change = change_for load it.over (new_entry t)

  now_is : n ≡ next s e.event e.actor (rows.Applied load.req change)
  now_is = now_at e out (rows.Applied load.req change) more it.out then_.work.goes

  history_is : n.history ≡ applied s.history change
  history_is = ap (λ (x : Seen). x.history) now_is

  -- ---- the places

  abbrev taker : Place → Place
  taker place =
      cond (has_row place.nav s.history.rows && not (has_row place.nav (applied s.history change).rows)) (record place { taken_by = Some load.req }) place

  -- the change by what the load does
  abbrev put : Bool → Change
  put true = changes.Replace load.nav it.over (new_entry t) load.state load.address None
  put false = changes.Push load.nav (new_entry t) load.state load.address None

  put_is : (b : Bool) → load.replace ≡ b → change ≡ put b
  put_is true is =
      ap (λ (b : Bool). if b then changes.Replace load.nav it.over (new_entry t) load.state load.address None else changes.Push load.nav (new_entry t) load.state load.address None) is
  put_is false is =
      ap (λ (b : Bool). if b then changes.Replace load.nav it.over (new_entry t) load.state load.address None else changes.Push load.nav (new_entry t) load.state load.address None) is

  unmade : (tie p out t passing nav load at idle may).q.made ≡ None
  unmade = (loading p out t passing nav load at idle may).unmade

  asked_at : request_of s load.req ≡ Some (tie p out t passing nav load at idle may).q
  asked_at = (tie p out t passing nav load at idle may).found

  by_taker : (b : Bool) → places_applied s load.req (put b) ≡ with_taker s.history (applied s.history (put b)) load.req s.places
  by_taker true =
      replace_places load.nav it.over (new_entry t) load.state load.address None refl s load.req (tie p out t passing nav load at idle may).q asked_at unmade
  by_taker false =
      push_places load.nav it.over (new_entry t) load.state load.address None refl s load.req (tie p out t passing nav load at idle may).q asked_at unmade

  places_are : n.places ≡ with_taker s.history (applied s.history change) load.req s.places
  places_are =
      ap (λ (x : Seen). x.places) now_is
      ∙ subst (λ (c : Change). places_applied s load.req c ≡ with_taker s.history (applied s.history c) load.req s.places) (sym (put_is load.replace refl)) (by_taker load.replace)

  -- who is awake stays so
  pub awake_then : KeepsAwake s n
  awake_then m doc was =
      let a = applied_awake s load.req change m was.place doc was.placed was.wakes in
      record { place = a.new; placed = ap (λ (x : Seen). place_in x.places m) now_is ∙ a.there; wakes = a.wakes }

  taker_nav : (place : Place) → (taker place).nav.0 ≡ place.nav.0
  taker_nav place =
      by_test (has_row place.nav s.history.rows && not (has_row place.nav (applied s.history change).rows))
    where
      by_test : (b : Bool) → (let q : Place = cond b (record place { taken_by = Some load.req }) place in q).nav.0 ≡ place.nav.0
      by_test true = refl
      by_test false = refl

  pub place_then : (m : NavId) → place_of n m ≡ option_map taker (place_of s m)
  place_then m =
      ap (λ (l : List Place). place_in l m) places_are ∙ find_map (λ (q : Place). q.nav.0) taker m.0 s.places taker_nav

  -- what isn't who took entries is as it was
  taker_same : {B : Type 0} (read : Place → B) → ((place : Place) → read (record place { taken_by = Some load.req }) ≡ read place) → (place : Place) → read (taker place) ≡ read place
  taker_same {B} read blind place =
      by_test (has_row place.nav s.history.rows && not (has_row place.nav (applied s.history change).rows))
    where
      by_test : (b : Bool) → read (let q : Place = cond b (record place { taken_by = Some load.req }) place in q) ≡ read place
      by_test true = blind place
      by_test false = refl

  pub hung : (m : NavId) → option_map hanging (place_of n m) ≡ option_map hanging (place_of s m)
  hung m = ap (option_map hanging) (place_then m) ∙ by_old (place_of s m)
    where
      by_old : (o : Option Place) → option_map hanging (option_map taker o) ≡ option_map hanging o
      by_old None = refl
      by_old (Some old) = ap (λ (h : List NavId × List StateId). Some h) (taker_same hanging (λ q. refl) old)

  -- ---- the documents: the entry is the coordinator's, so no document made it

  number_each : (documents : List Document) → ((d : Document) → Has documents d → 1 ≤ d.nr.0) → AreDocuments documents
  number_each [] each = tt
  number_each (d ∷ documents) each =
      let low : 1 ≤ d.nr.0 = each d (inl refl) in
      (grind (arith, nat_tests, low), number_each documents (λ other has. each other (inr has)))

  numbered : AreDocuments s.documents
  numbered =
      number_each s.documents (λ d has.
      let y = has_found (λ (x : Document). x.nr.0 == d.nr.0) s.documents d has (nat_eq_refl d.nr.0) in
      let low : 1 ≤ y.0.nr.0 = (tab_s.entries.counted d.nr y.0 y.1).real in
      let same : (y.0.nr.0 == d.nr.0) ≡ true = (find_has (λ (x : Document). x.nr.0 == d.nr.0) s.documents y.0 y.1).1 in
      grind (arith, nat_tests, low, same))

  documents_put : (b : Bool) → map (λ (d : Document). applied_to (put b) (told_after_change d (put b))) s.documents ≡ s.documents
  documents_put true =
      all_replaced load.nav it.over (new_entry t) load.state load.address None refl s.documents numbered
  documents_put false =
      all_pushed load.nav it.over (new_entry t) load.state load.address None refl s.documents numbered

  pub documents_same : n.documents ≡ s.documents
  documents_same =
      ap (λ (x : Seen). x.documents) now_is
      ∙ subst (λ (c : Change). map (λ (d : Document). applied_to c (told_after_change d c)) s.documents ≡ s.documents) (sym (put_is load.replace refl)) (documents_put load.replace)

  -- ---- the targets

  history_put : (b : Bool) → load.replace ≡ b → n.history ≡ applied s.history (put b)
  history_put b is = history_is ∙ ap (applied s.history) (put_is b is)

  place_own : here.place.nav ≡ load.nav
  place_own = found_nav s.places nav here.place here.placed ∙ sym own

  over_given : here.place.given ≡ Some it.over
  over_given = ap (λ (q : Place). q.given) (sym own_place) ∙ it.given

  keeps_put : (b : Bool) → load.replace ≡ b → KeepsTargets s n load.nav
  keeps_put true is =
      replace_targets s n tab_s.sound tab_s.hangs load.nav (new_entry t) load.state load.address None hung it.over (history_put true is) here.place place_own over_given
  keeps_put false is =
      push_keeps s n tab_s.sound tab_s.hangs load.nav (new_entry t) load.state load.address None hung (history_put false is)

  pub keeps : KeepsTargets s n load.nav
  keeps = keeps_put load.replace refl

  left_put : (b : Bool) → load.replace ≡ b → (m : NavId) (place : Place) → place_of s m ≡ Some place → has_nav place.above load.nav ≡ false → is_shown s.history.rows now m ≡ true → has_row m n.history.rows ≡ true
  left_put true is m place found beside shown =
      replace_left s n tab_s.sound tab_s.hangs load.nav (new_entry t) load.state load.address None hung it.over (history_put true is) m place found beside shown
  left_put false is m place found beside shown =
      push_left s n tab_s.sound tab_s.hangs load.nav (new_entry t) load.state load.address None hung (history_put false is) m shown

  -- the navigable's own
  pub record IsNewTarget : Type 0 where
    pub row : Row
    pub row_at : target_entry n.history.rows load.nav n.history.current ≡ Some row
    pub is_new : row.entry ≡ new_entry t
    pub state_is : row.state ≡ load.state

  own_put : (b : Bool) → load.replace ≡ b → IsNewTarget
  own_put false is =
      record {
        row = record { owner = owner_of load.nav (cleared s.history); nav = load.nav; entry = new_entry t; step = record { 0 = now + 1 }; state = load.state; address = load.address; memo = None };
        row_at = push_own s n tab_s.sound tab_s.hangs load.nav (new_entry t) load.state load.address None hung (history_put false is);
        is_new = refl;
        state_is = refl;
      }
  own_put true is = by_target (target_entry n.history.rows load.nav n.history.current) refl
    where
      shown_now : is_shown s.history.rows now load.nav ≡ true
      shown_now =
          ap (λ (m : NavId). is_shown s.history.rows now m) own ∙ ap (λ (step : ℕ). is_shown s.history.rows step nav) (sym aim_was) ∙ here.shown

      same : (m : EntryId) → same_entry m m ≡ true
      same m = rw (nat_eq_refl m.maker) (nat_eq_refl m.nr)

      given_now : is_given_target s.history.rows now here.place ≡ true
      given_now =
          ap (λ (m : NavId). holds (λ (row : Row). holds (same_entry row.entry) here.place.given) (target_entry s.history.rows m now)) (place_own ∙ own)
          ∙ ap (λ (step : ℕ). holds (λ (row : Row). holds (same_entry row.entry) here.place.given) (target_entry s.history.rows nav step)) (sym aim_was)
          ∙ ap (λ (o : Option Row). holds (λ (row : Row). holds (same_entry row.entry) here.place.given) o) here.at
          ∙ ap (λ (o : Option EntryId). holds (same_entry here.target.entry) o) here.given
          ∙ same here.target.entry

      not_above : has_nav here.place.above load.nav ≡ false
      not_above =
          ap (λ (m : NavId). has_nav here.place.above m) (sym place_own) ∙ not_above_itself s tab_s.sound tab_s.hangs nav here.place here.placed

      row_left : has_row load.nav n.history.rows ≡ true
      row_left =
          left_put true is load.nav here.place (ap (λ (m : NavId). place_of s m) own ∙ here.placed) not_above shown_now

      given_here : holds (λ (row : Row). same_entry row.entry (new_entry t)) (target_entry n.history.rows load.nav n.history.current) ≡ true
      given_here =
          replace_own s n tab_s.sound tab_s.hangs load.nav (new_entry t) load.state load.address None hung it.over (history_put true is) here.place place_own over_given given_now row_left

      by_target : (o : Option Row) → target_entry n.history.rows load.nav n.history.current ≡ o → IsNewTarget
      by_target None none =
          let never : false ≡ true = sym (ap (λ (o : Option Row). holds (λ (row : Row). same_entry row.entry (new_entry t)) o) none) ∙ given_here in absurd cc
      by_target (Some row) is_ =
          record {
            row = row;
            row_at = is_;
            is_new = named;
            state_is = replace_new s n tab_s.sound tab_s.hangs load.nav (new_entry t) load.state load.address None hung it.over (history_put true is) row (target_has n.history.rows load.nav n.history.current row is_).there named (λ r has e. fresh None p.loads p.hand s tab_s r has (e ∙ next_is p out t passing nav load at idle may));
          }
        where
          named : row.entry ≡ new_entry t
          named =
              entry_same row.entry (new_entry t) (sym (ap (λ (o : Option Row). holds (λ (r : Row). same_entry r.entry (new_entry t)) o) is_) ∙ given_here)

  pub new_target : IsNewTarget
  new_target = own_put load.replace refl

  -- so its document state has an entry
  pub state_entered : has_state load.state n.history.rows ≡ true
  state_entered =
      has_any (λ (row : Row). row.state.0 == load.state.0) n.history.rows new_target.row (target_has n.history.rows load.nav n.history.current new_target.row new_target.row_at).there (ap (λ (x : StateId). x.0 == load.state.0) new_target.state_is ∙ nat_eq_refl load.state.0)

  -- ---- who isn't below it

  stood : (m : NavId) (place : Place) → place_of s m ≡ Some place → is_shown s.history.rows now m ≡ true → is_standing s.history.rows now place ≡ true
  stood = stand_each s tab_s.standing now may.stand

  left : (m : NavId) (place : Place) → place_of s m ≡ Some place → has_nav place.above load.nav ≡ false → is_shown s.history.rows now m ≡ true → has_row m n.history.rows ≡ true
  left = left_put load.replace refl

  module _ (m : NavId) (place : Place) (found : place_of s m ≡ Some place) (apart : (m.0 == load.nav.0) ≡ false) (beside : has_nav place.above load.nav ≡ false) where
    pub same_target : is_shown s.history.rows now m ≡ true → target_entry n.history.rows m n.history.current ≡ target_entry s.history.rows m now
    same_target shown = keeps.targets m apart (left m place found beside shown)

    placed_then : place_of n m ≡ Some (taker place)
    placed_then = place_then m ∙ ap (option_map taker) found

    -- one that was shown stands where it stood
    standing_then : is_shown s.history.rows now m ≡ true → is_standing n.history.rows n.history.current (taker place) ≡ true
    standing_then shown =
        taker_same (λ (q : Place). is_standing n.history.rows n.history.current q) (λ q. refl) place
        ∙ ap (λ (o : Option Row). (holds (λ (row : Row). holds (same_entry row.entry) place.given) o && not place.is_unmet) && has_arrived place) targets
        ∙ stood m place found shown
      where
        own_nav_ : place.nav ≡ m
        own_nav_ = found_nav s.places m place found

        targets : target_entry n.history.rows place.nav n.history.current ≡ target_entry s.history.rows place.nav now
        targets =
            ap (λ (x : NavId). target_entry n.history.rows x n.history.current) own_nav_
            ∙ same_target shown
            ∙ ap (λ (x : NavId). target_entry s.history.rows x now) (sym own_nav_)

    shown_still : is_shown s.history.rows now m ≡ true → is_shown n.history.rows n.history.current m ≡ true
    shown_still shown =
        shown_then s n tab_s.sound tab_s.hangs tab_n.sound tab_n.hangs load.nav keeps m place found beside left (ap (λ (o : Option Row). is_some o) (same_target shown) ∙ has_begun s tab_s.sound tab_s.hangs now m shown) shown

    placed_still : is_shown s.history.rows now m ≡ true → is_placed n (aim_of n) m ≡ true
    placed_still shown =
        ap (λ (step : ℕ). is_placed n step m) aim_then
        ∙ rw (shown_still shown) (ap (λ (o : Option Place). holds (is_standing n.history.rows n.history.current) o) placed_then ∙ standing_then shown)

    -- it doesn't stop the walk
    unstopped : is_shown s.history.rows now m ≡ true → is_stopping n.history.rows n.history.current n.places m ≡ false
    unstopped shown =
        ap (λ (o : Option Place). not (holds (is_in_place n.history.rows n.history.current) o)) placed_then
        ∙ ap not (in_place n.history.rows n.history.current (taker place) (tab_n.standing m (taker place) placed_then).unlost (standing_then shown))

    -- one that is shown then needs nothing
    needless : is_shown n.history.rows n.history.current m ≡ true → is_needing n.history.rows n.history.current (taker place) ≡ false
    needless shown =
        let was : is_shown s.history.rows now m ≡ true = shown_was s n tab_s.sound tab_s.hangs tab_n.sound tab_n.hangs load.nav keeps m place found beside apart shown in
        met_none n.history.rows n.history.current (taker place) (tab_n.standing m (taker place) placed_then).unlost (standing_then was)

  -- ---- the navigable is in need

  abbrev mine : Place
  mine = taker here.place

  my_place : place_of n load.nav ≡ Some mine
  my_place =
      place_then load.nav ∙ ap (option_map taker) (ap (λ (m : NavId). place_of s m) own ∙ here.placed)

  my_shown : is_shown s.history.rows now load.nav ≡ true
  my_shown =
      ap (λ (m : NavId). is_shown s.history.rows now m) own ∙ ap (λ (step : ℕ). is_shown s.history.rows step nav) (sym aim_was) ∙ here.shown

  my_found : place_of s load.nav ≡ Some here.place
  my_found = ap (λ (m : NavId). place_of s m) own ∙ here.placed

  my_beside : has_nav here.place.above load.nav ≡ false
  my_beside =
      ap (λ (m : NavId). has_nav here.place.above m) (sym place_own) ∙ not_above_itself s tab_s.sound tab_s.hangs nav here.place here.placed

  my_above : mine.above ≡ here.place.above
  my_above = taker_same (λ (q : Place). q.above) (λ q. refl) here.place

  -- who is above it doesn't stop the walk
  above_free : (x : NavId) → has_nav here.place.above x ≡ true → is_stopping n.history.rows n.history.current n.places x ≡ false
  above_free x has = by_place (place_of s x) refl
    where
      on_way : has_nav (load.nav ∷ here.place.above) x ≡ true
      on_way = by_test (load.nav.0 == x.0)
        where
          by_test : (b : Bool) → (b || has_nav here.place.above x) ≡ true
          by_test true = refl
          by_test false = has

      apart : (x.0 == load.nav.0) ≡ false
      apart = by_test (x.0 == load.nav.0) refl
        where
          by_test : (b : Bool) → (x.0 == load.nav.0) ≡ b → (x.0 == load.nav.0) ≡ false
          by_test false is = is
          by_test true is =
              let never : true ≡ false = sym has ∙ ap (λ (m : NavId). has_nav here.place.above m) (nav_is x load.nav is) ∙ my_beside in
              absurd cc

      by_place : (o : Option Place) → place_of s x ≡ o → is_stopping n.history.rows n.history.current n.places x ≡ false
      by_place None none =
          let its = way_there s tab_s.sound tab_s.hangs load.nav here.place my_found x has in
          let never : None ≡ Some its.0 = sym none ∙ its.1 in absurd cc
      by_place (Some place) found =
          unstopped x place found apart (off (has_nav place.above load.nav) refl) (shown_on_way s tab_s.sound tab_s.hangs now load.nav here.place my_found my_shown x on_way)
        where
          off : (b : Bool) → has_nav place.above load.nav ≡ b → has_nav place.above load.nav ≡ false
          off false is = is
          off true is =
              let never : true ≡ false = sym (way_more s tab_s.sound tab_s.hangs load.nav here.place my_found x place on_way found load.nav is) ∙ my_beside in
              absurd cc

  -- its target is new
  ungiven : is_given_target n.history.rows n.history.current mine ≡ false
  ungiven =
      taker_same (λ (q : Place). is_given_target n.history.rows n.history.current q) (λ q. refl) here.place
      ∙ ap (λ (m : NavId). holds (λ (row : Row). holds (same_entry row.entry) here.place.given) (target_entry n.history.rows m n.history.current)) place_own
      ∙ ap (λ (o : Option Row). holds (λ (row : Row). holds (same_entry row.entry) here.place.given) o) new_target.row_at
      ∙ ap (λ (o : Option EntryId). holds (same_entry new_target.row.entry) o) over_given
      ∙ by_test (same_entry new_target.row.entry it.over) refl
    where
      by_test : (b : Bool) → same_entry new_target.row.entry it.over ≡ b → b ≡ false
      by_test false is = refl
      by_test true is =
          let its : IsTarget s.history.rows nav (aim_of s) here.target = target_has s.history.rows nav (aim_of s) here.target here.at in
          let same : here.target.entry ≡ new_entry t = sym over_target ∙ sym (entry_same new_target.row.entry it.over is) ∙ new_target.is_new in
          absurd (fresh None p.loads p.hand s tab_s here.target its.there (same ∙ next_is p out t passing nav load at idle may))

  my_shown_then : is_shown n.history.rows n.history.current load.nav ≡ true
  my_shown_then =
      shown_then s n tab_s.sound tab_s.hangs tab_n.sound tab_n.hangs load.nav keeps load.nav here.place my_found my_beside left (ap (λ (o : Option Row). is_some o) new_target.row_at) my_shown

  pub need_then : IsVisitedInNeed n mine
  need_then =
      record {
        shown = ap (λ (step : ℕ). is_shown n.history.rows step mine.nav) aim_then
            ∙ ap (λ (m : NavId). is_shown n.history.rows n.history.current m) (found_nav n.places load.nav mine my_place)
            ∙ my_shown_then;
        reached = ap (λ (step : ℕ). list_any (is_stopping n.history.rows step n.places) mine.above) aim_then
            ∙ ap (list_any (is_stopping n.history.rows n.history.current n.places)) my_above
            ∙ none_of (is_stopping n.history.rows n.history.current n.places) here.place.above above_free;
        needs = ap (λ (step : ℕ). is_needing n.history.rows step mine) aim_then
            ∙ ap (λ (b : Bool). is_asleep mine || mine.is_unmet || not b) ungiven
            ∙ third (is_asleep mine) mine.is_unmet;
      }

  -- ---- the tab is calm but for it and those below it

  sights : SameSights s n
  sights m = ap (option_map sight_of) (place_then m) ∙ by_old (place_of s m)
    where
      by_old : (o : Option Place) → option_map sight_of (option_map taker o) ≡ option_map sight_of o
      by_old None = refl
      by_old (Some old) = ap (λ (x : Sight). Some x) (taker_same sight_of (λ q. refl) old)

  -- no entry had the load's document state
  unheld : (row : Row) → Has s.history.rows row → row.state.0 ≡ load.state.0 → ⊥
  unheld row has same =
      its.unheld row has (same ∙ ap (λ (x : StateId). x.0) (sym state_is))
    where
      its : IsLoading s (look (tie p out t passing nav load at idle may).q)
      its = loading p out t passing nav load at idle may

      state_is : its.state ≡ load.state
      state_is =
          let both : Some its.state ≡ Some load.state = sym its.state_is ∙ (tie p out t passing nav load at idle may).state in cc

  childless_put : (b : Bool) → load.replace ≡ b → (row : Row) → Has n.history.rows row → row.owner ≡ Some load.state → ⊥
  childless_put true is row has =
      replace_childless s.history tab_s.sound load.state unheld load.nav (new_entry t) load.address None it.over row (subst (λ (h : History). Has h.rows row) (history_put true is) has)
  childless_put false is row has =
      push_childless s.history tab_s.sound load.state unheld load.nav (new_entry t) load.address None row (subst (λ (h : History). Has h.rows row) (history_put false is) has)

  -- its document is there
  usable_here : HasUsable n load.state
  unfolding here
  usable_here =
      ap (λ (l : List Document). list_any (λ (d : Document). is_usable d load.state) l) documents_same
      ∙ ap (λ (o : Option StateId). holds (λ (state : StateId). list_any (λ (d : Document). is_usable d state) s.documents) o) (sym (ap (λ (x : Asked). x.state) same ∙ (tie p out t passing nav load at idle may).state))
      ∙ due.due.ready
    where
      due : IsApplyDue e out load.req nav change
      due = apply_due p out t passing nav load at idle may it.over over_given

      same : due.asked ≡ (tie p out t passing nav load at idle may).q
      same =
          let both : Some due.asked ≡ Some (tie p out t passing nav load at idle may).q = sym due.due.at ∙ (tie p out t passing nav load at idle may).found in cc

  pub around_then : AreAwakeWithRows s → IsCalmAround n load.nav
  around_then with_rows =
      record {
        but = changed_but s n tab_s.sound tab_s.hangs tab_n.sound tab_n.hangs load.nav keeps left sights (calm_stood s tab_s.sound tab_s.hangs tab_s.homes tab_s.standing with_rows may.stand);
        target = new_target.row;
        to = new_target.row_at;
        shown = my_shown_then;
        doc = there.0;
        document = there.1.d;
        found = there.1.found;
        usable = ap (λ (x : StateId). is_usable there.1.d x) new_target.state_is ∙ there.1.usable;
        childless = λ row has owner. childless_put load.replace refl row has (owner ∙ ap (λ (x : StateId). Some x) new_target.state_is);
      }
    where
      there : (doc : DocId) × IsUsableAt n doc load.state
      there = usable_found n tab_n.whose load.state usable_here

  -- ---- the request

  abbrev q : Asked
  q = (tie p out t passing nav load at idle may).q

  its_what : q.what ≡ requests.Load nav (tie p out t passing nav load at idle may).mode load.address
  its_what = what_is p out t passing nav load at idle may

  loads : is_load q.what ≡ true
  loads = ap is_load its_what

  began : q.is_started ≡ true
  unfolding here
  began = (open_ p out t passing nav load at idle may it.over over_given).0

  of_it : nav_of_change change ≡ Some load.nav
  of_it = ap nav_of_change (put_is load.replace refl) ∙ by_put load.replace
    where
      by_put : (b : Bool) → nav_of_change (put b) ≡ Some load.nav
      by_put true = refl
      by_put false = refl

  abbrev raw : Seen
  raw = next s e.event e.actor (rows.Applied load.req change)

  -- it is the last load with a new document that was applied
  pub applied_last : IsLoadApplied n load.nav load.req
  applied_last =
      subst (λ (x : Seen). IsLoadApplied x load.nav load.req) (sym now_is)
      (load_applied s e.event e.actor load.req load.nav change q asked_at loads began of_it mine (subst (λ (x : Seen). place_of x load.nav ≡ Some mine) now_is my_place) (subst (λ (x : Seen). IsVisitedInNeed x mine) now_is need_then) (subst (λ (x : Seen). aim_of x ≡ x.history.current) now_is aim_then))

  abbrev last : IsLoadApplied n load.nav load.req
  last = applied_last

  -- it moves its navigable, and those below
  pub moves_at : (m : NavId) → has_nav (way_to n m) load.nav ≡ true → IsMovedBy n (whys.Req load.req) m
  moves_at m on = moved last
    where
      moved : IsLoadApplied n load.nav load.req → IsMovedBy n (whys.Req load.req) m
      moved l = changed_moves n load.req l.mover m l.change load.nav l.found l.changed l.its on

  pub way_is : (m : NavId) (place : Place) → place_of n m ≡ Some place → way_to n m ≡ m ∷ place.above
  way_is m place found =
      ap (λ (o : Option Place). option_map_or way_of o (m ∷ [])) found
      ∙ ap (λ (x : NavId). x ∷ place.above) (found_nav n.places m place found)

  -- an old place
  record WasAt (m : NavId) (place : Place) : Type 0 where
    old : Place
    found : place_of s m ≡ Some old
    is : taker old ≡ place

  was_at : (m : NavId) (place : Place) → place_of n m ≡ Some place → WasAt m place
  was_at m place found = by_old (place_of s m) refl
    where
      by_old : (o : Option Place) → place_of s m ≡ o → WasAt m place
      by_old None none =
          let never : None ≡ Some place = sym (place_then m ∙ ap (option_map taker) none) ∙ found in absurd cc
      by_old (Some old) there =
          let two : Some (taker old) ≡ Some place = sym (place_then m ∙ ap (option_map taker) there) ∙ found in
          record { old = old; found = there; is = (let one : taker old ≡ place = cc in one) }

  -- whoever is visited in need is its navigable, or below that
  visited_under : (m : NavId) (place : Place) → place_of n m ≡ Some place → IsVisitedInNeed n place → has_nav (way_to n m) load.nav ≡ true
  visited_under m place found need = by_own (m.0 == load.nav.0) refl
    where
      was : WasAt m place
      was = was_at m place found

      above_same : place.above ≡ was.old.above
      above_same = ap (λ (q : Place). q.above) (sym was.is) ∙ taker_same (λ (q : Place). q.above) (λ q. refl) was.old

      by_below : (m.0 == load.nav.0) ≡ false → (b : Bool) → has_nav was.old.above load.nav ≡ b → has_nav (way_to n m) load.nav ≡ true
      by_below apart true below =
          ap (λ (l : List NavId). has_nav l load.nav) (way_is m place found) ∙ ap (λ (b : Bool). b || has_nav place.above load.nav) apart ∙ ap (λ (l : List NavId). has_nav l load.nav) above_same ∙ below
      by_below apart false beside =
          let shown : is_shown n.history.rows n.history.current m ≡ true = sym (ap (λ (step : ℕ). is_shown n.history.rows step place.nav) aim_then ∙ ap (λ (x : NavId). is_shown n.history.rows n.history.current x) (found_nav n.places m place found)) ∙ need.shown in
          let none : is_needing n.history.rows n.history.current place ≡ false = ap (λ (x : Place). is_needing n.history.rows n.history.current x) (sym was.is) ∙ needless m was.old was.found apart beside shown in
          let never : true ≡ false = sym (sym (ap (λ (step : ℕ). is_needing n.history.rows step place) aim_then) ∙ need.needs) ∙ none in
          absurd cc

      by_own : (b : Bool) → (m.0 == load.nav.0) ≡ b → has_nav (way_to n m) load.nav ≡ true
      by_own true same =
          ap (λ (l : List NavId). has_nav l load.nav) (way_is m place found) ∙ ap (λ (b : Bool). b || has_nav place.above load.nav) same
      by_own false apart = by_below apart (has_nav was.old.above load.nav) refl

  -- so it is moved by the load
  pub moves_then : MovesVisited n (whys.Req load.req)
  moves_then m place found need epoch = moves_at m (visited_under m place found need)

  abbrev end_it : Asked → Asked
  end_it x = record x { ending = Some endings.Applied }

  abbrev change_it : Asked → Asked
  change_it x = record x { change = Some change }

  abbrev take_it : Asked → Asked
  take_it x = record x { took = entries_taken s.history change }

  request_then : request_of n load.req ≡ Some (take_it (change_it (end_it q)))
  request_then =
      ap (λ (x : Seen). request_of x load.req) now_is
      ∙ on_itself (on_request load.req change_it (on_request load.req end_it s.requests)) load.req take_it
      ∙ ap (option_map take_it) (on_itself (on_request load.req end_it s.requests) load.req change_it ∙ ap (option_map change_it) (on_itself s.requests load.req end_it ∙ ap (option_map end_it) asked_at))

  -- and leaves what it shows for it
  leavers_then : LeavesVisited n (whys.Req load.req)
  leavers_then m place found need epoch =
      load_leaver n m load.req (take_it (change_it (end_it q))) load.nav (tie p out t passing nav load at idle may).mode load.address request_then (its_what ∙ ap (λ (x : NavId). requests.Load x (tie p out t passing nav load at idle may).mode load.address) (sym own)) began refl (visited_under m place found need)

  -- so it may leave whoever is at or below its navigable
  pub leaves_under : (m : NavId) → has_nav (way_to n m) load.nav ≡ true → MayLeaveNav n load.req m
  leaves_under m up =
      load_leaves n load.req (take_it (change_it (end_it q))) m load.nav (tie p out t passing nav load at idle may).mode load.address request_then (its_what ∙ ap (λ (x : NavId). requests.Load x (tie p out t passing nav load at idle may).mode load.address) (sym own)) up

  -- ---- the other requests

  pub other_look : (r : ReqId) → (r.0 == load.req.0) ≡ false → look_of n r ≡ look_of s r
  other_look r apart =
      ap (λ (x : Seen). look_of x r) now_is
      ∙ ap (λ (o : Option Asked). option_map look o)
      (on_else (on_request load.req (λ (x : Asked). record x { change = Some change }) (on_request load.req (λ (x : Asked). record x { ending = Some endings.Applied }) s.requests)) load.req (λ (x : Asked). record x { took = entries_taken s.history change }) r apart
      ∙ on_else (on_request load.req (λ (x : Asked). record x { ending = Some endings.Applied }) s.requests) load.req (λ (x : Asked). record x { change = Some change }) r apart
      ∙ on_else s.requests load.req (λ (x : Asked). record x { ending = Some endings.Applied }) r apart)

  abbrev ended_ : List Asked
  ended_ = on_request load.req (λ (x : Asked). record x { ending = Some endings.Applied }) s.requests

  abbrev changed_ : List Asked
  changed_ = on_request load.req (λ (x : Asked). record x { change = Some change }) ended_

  -- what each asks is as it was, and nobody has joined
  pub wishes_then : SameReads wish s.requests n.requests
  wishes_then =
      subst (λ (x : Seen). SameReads wish s.requests x.requests) (sym now_is)
      (reads_then wish s.requests changed_ (on_request load.req (λ (x : Asked). record x { took = entries_taken s.history change }) changed_) (reads_then wish s.requests ended_ changed_ (on_read wish s.requests load.req (λ (x : Asked). record x { ending = Some endings.Applied }) (λ x. refl)) (on_read wish ended_ load.req (λ (x : Asked). record x { change = Some change }) (λ x. refl))) (on_read wish changed_ load.req (λ (x : Asked). record x { took = entries_taken s.history change }) (λ x. refl)))

  pub joined_then : (r : ReqId) → has_req n.joined r ≡ true → has_req s.joined r ≡ true
  joined_then r has =
      still_joined load.req r s.joined (ap (λ (x : Seen). has_req x.joined r) (sym now_is) ∙ has)

  -- an ongoing load was one, of another navigable
  record WasLoad (r : ReqId) (m : NavId) : Type 0 where
    before : IsLoadOf s r m
    other : (m.0 == load.nav.0) ≡ false
    unlike : (r.0 == load.req.0) ≡ false

  was_load : (r : ReqId) (m : NavId) → IsLoadOf n r m → WasLoad r m
  was_load r m its = by_req (r.0 == load.req.0) refl
    where
      -- its own has ended
      ended : (r.0 == load.req.0) ≡ true → ⊥
      ended same = gone last (asked_for n r m its)
        where
          gone : IsLoadApplied n load.nav load.req → IsAskedFor n r m → ⊥
          gone l asked =
              let two : Some asked.q ≡ Some l.mover = sym asked.at ∙ ap (λ (x : ReqId). request_of n x) (req_same r load.req same) ∙ l.found in
              let one : asked.q ≡ l.mover = cc in
              let none : asked.q.change ≡ None = (tab_n.movers.ends r asked.q asked.at).unchanged (open_of asked.q asked.ongoing) in
              let never : None ≡ Some l.change = sym none ∙ ap (λ (x : Asked). x.change) one ∙ l.changed in
              absurd cc

      by_req : (b : Bool) → (r.0 == load.req.0) ≡ b → WasLoad r m
      by_req true same = absurd (ended same)
      by_req false apart = record { before = before; other = by_nav (m.0 == load.nav.0) refl; unlike = apart }
        where
          before : IsLoadOf s r m
          before = record { look = its.look; at = sym (other_look r apart) ∙ its.at; ongoing = its.ongoing; loads_it = its.loads_it }

          mine_ : IsLoadOf s load.req m → r ≡ load.req
          mine_ own_ = sole_load s r load.req m tab_s.loading before own_

          by_nav : (b : Bool) → (m.0 == load.nav.0) ≡ b → (m.0 == load.nav.0) ≡ false
          by_nav false is = is
          by_nav true is =
              let same : m ≡ nav = nav_is m load.nav is ∙ own in
              let own_ : IsLoadOf s load.req m = load_now s load.req m q asked_at (tie p out t passing nav load at idle may).ongoing (ap (λ (w : Request). loads_nav m w) its_what ∙ ap (λ (x : NavId). nav.0 == x.0) same ∙ nat_eq_refl nav.0) in
              let never : true ≡ false = sym (ap (λ (x : ReqId). r.0 == x.0) (sym (mine_ own_)) ∙ nat_eq_refl r.0) ∙ apart in
              absurd cc

  -- so each ongoing one was
  pub look_was : (r : ReqId) (l : Look) → look_of n r ≡ Some l → is_ongoing l ≡ true → look_of s r ≡ Some l
  look_was r l found on = same (was_load r its.nav its_load).before
    where
      its : IsLoading n l
      its = tab_n.loading.each r l found on

      its_load : IsLoadOf n r its.nav
      its_load =
          record { look = l; at = found; ongoing = on; loads_it = ap (λ (w : Request). loads_nav its.nav w) its.what ∙ nat_eq_refl its.nav.0 }

      same : IsLoadOf s r its.nav → look_of s r ≡ Some l
      same before = other_then (r.0 == load.req.0) refl before
        where
          other_then : (b : Bool) → (r.0 == load.req.0) ≡ b → IsLoadOf s r its.nav → look_of s r ≡ Some l
          other_then false apart b = sym (other_look r apart) ∙ found
          other_then true is b =
              let its_apart : (r.0 == load.req.0) ≡ false = (was_load r its.nav its_load).unlike in
              let never : true ≡ false = sym is ∙ its_apart in
              absurd cc

  -- its own has ended
  pub over_then : (l : Look) → look_of n load.req ≡ Some l → is_ongoing l ≡ true → ⊥
  over_then l found on =
      let its : IsLoading n l = tab_n.loading.each load.req l found on in
      let its_load : IsLoadOf n load.req its.nav = record { look = l; at = found; ongoing = on; loads_it = ap (λ (w : Request). loads_nav its.nav w) its.what ∙ nat_eq_refl its.nav.0 } in
      let never : true ≡ false = sym (nat_eq_refl load.req.0) ∙ (was_load load.req its.nav its_load).unlike in
      cc

  -- the same have joined, which are no loads
  pub joined_same : n.joined ≡ s.joined
  joined_same =
      ap (λ (x : Seen). x.joined) now_is ∙ without_same s.joined load.req unjoined
    where
      way : 0 < times_on_way (request_of s load.req)
      way =
          (let going_ = (tie p out t passing nav load at idle may).ongoing in let one : 0 < times_on_way (request_of s load.req) = rw asked_at (rw going_ (omega arith)) in one)

      unjoined : has_req s.joined load.req ≡ false
      unjoined = (let few = at_most_once None p.loads p.hand s tab_s load.req in times_none load.req s.joined (omega (arith, way, few)))

  -- ---- ongoing loads

  -- one that isn't below it stands where it stood
  reached_still : (m : NavId) → (m.0 == load.nav.0) ≡ false → is_reached s m ≡ true → (its : IsReachedAt s m) → has_nav its.place.above load.nav ≡ false → is_reached n m ≡ true
  reached_still m apart is its beside =
      rw (all_of (is_placed n (aim_of n)) (way_to n m) way_placed) (ap (λ (o : Option Place). holds (λ (x : Place). not (list_any (is_lost_in n.places) x.above)) o) placed ∙ ap not (lost_none n tab_n.standing (taker its.place).above))
    where
      placed : place_of n m ≡ Some (taker its.place)
      placed = place_then m ∙ ap (option_map taker) its.placed

      way_same : way_to n m ≡ m ∷ its.place.above
      way_same =
          way_is m (taker its.place) placed ∙ ap (λ (l : List NavId). m ∷ l) (taker_same (λ (x : Place). x.above) (λ x. refl) its.place)

      each_placed : (x : NavId) → has_nav (m ∷ its.place.above) x ≡ true → is_placed n (aim_of n) x ≡ true
      each_placed x has = by_place (place_of s x) refl
        where
          stands_there : (is_shown s.history.rows now x ≡ true) × (stands s now x ≡ true)
          stands_there =
              and_parts (is_shown s.history.rows now x) (stands s now x) (sym (ap (λ (step : ℕ). is_placed s step x) aim_was) ∙ its.each x has)

          off_nav : (x.0 == load.nav.0) ≡ false
          off_nav = by_test (x.0 == load.nav.0) refl
            where
              by_test : (b : Bool) → (x.0 == load.nav.0) ≡ b → (x.0 == load.nav.0) ≡ false
              by_test false e = e
              by_test true e =
                  let in_ : has_nav (m ∷ its.place.above) load.nav ≡ true = ap (λ (y : NavId). has_nav (m ∷ its.place.above) y) (sym (nav_is x load.nav e)) ∙ has in
                  let out_ : has_nav (m ∷ its.place.above) load.nav ≡ false = ap (λ (b : Bool). b || has_nav its.place.above load.nav) apart ∙ beside in
                  let never : true ≡ false = sym in_ ∙ out_ in
                  absurd cc

          by_place : (o : Option Place) → place_of s x ≡ o → is_placed n (aim_of n) x ≡ true
          by_place None none =
              let never : false ≡ true = sym (ap (λ (o : Option Place). holds (is_standing s.history.rows now) o) none) ∙ stands_there.1 in absurd cc
          by_place (Some place) found = placed_still x place found off_nav (off (has_nav place.above load.nav) refl) stands_there.0
            where
              off : (b : Bool) → has_nav place.above load.nav ≡ b → has_nav place.above load.nav ≡ false
              off false e = e
              off true e =
                  let never : true ≡ false = sym (way_more s tab_s.sound tab_s.hangs m its.place its.placed x place has found load.nav e) ∙ beside in
                  absurd cc

      way_placed : (x : NavId) → has_nav (way_to n m) x ≡ true → is_placed n (aim_of n) x ≡ true
      way_placed x has = each_placed x (ap (λ (l : List NavId). has_nav l x) (sym way_same) ∙ has)

  -- each ongoing load's navigable stands, or is below it
  pub loads_then : LoadsStand s → StandOr (IsBelowNav n load.nav) n
  loads_then stand r m its = by_below (has_nav at_.place.above load.nav) refl
    where
      was : WasLoad r m
      was = was_load r m its

      reached : is_reached s m ≡ true
      reached = stand_reached s stand r m was.before

      at_ : IsReachedAt s m
      at_ = reached_at s m reached

      by_below : (b : Bool) → has_nav at_.place.above load.nav ≡ b → (is_reached n m ≡ true) ⊎ IsBelowNav n load.nav m
      by_below false beside = inl (reached_still m was.other reached at_ beside)
      by_below true below =
          inr (record {
            place = taker at_.place;
            placed = place_then m ∙ ap (option_map taker) at_.placed;
            below = ap (λ (l : List NavId). has_nav l load.nav) (taker_same (λ (x : Place). x.above) (λ x. refl) at_.place) ∙ below;
          })

  -- none was held back
  pub held_then : AreUnheld e s → AreUnheld e n
  held_then held r m its = held r m (was_load r m its).before

  -- ---- another pass may follow

  pub serves : MayServe n load.req
  serves = it.causes (whys.Req load.req) before load.req refl
    where
      began_ : (x : Asked) → request_of s load.req ≡ Some x → HasSetOut x
      began_ x found =
          let two : Some q ≡ Some x = sym asked_at ∙ found in
          let one : q ≡ x = cc in
          subst (λ (y : Asked). HasSetOut y) one (started_out q began)

      before : MayCause s (whys.Req load.req)
      before r same =
          let one : load.req ≡ r = cc in
          subst (λ (x : ReqId). MayServe s x) one (record { goes = goes_on s None tab_s.asked load.req q asked_at; begun = began_ })

  ways_then : KeepWays s.places n.places
  ways_then =
      subst (λ (l : List Place). KeepWays s.places l) (sym places_are)
      (ways_mapped taker s.places (record {
        nav = taker_same (λ (x : Place). x.nav) (λ x. refl);
        above = taker_same (λ (x : Place). x.above) (λ x. refl);
        given = λ place test any. ap (λ (l : List EntryId). list_any test l) (taker_same (λ (x : Place). x.ever_given) (λ x. refl) place) ∙ any;
      }))

  pub open_then : HasPassed e s → IsOpen e u.running (whys.Req load.req) n
  open_then passed =
      subst (λ (r : Option ReqId). IsOpen e r (whys.Req load.req) n) (sym idle_then) (record {
        may = λ r same. (let one : load.req ≡ r = cc in subst (λ (x : ReqId). MayServe n x) one serves);
        since = record {
          distinct = passed.walked.since.distinct;
          homed = passed.walked.since.homed;
          ways = ways_both e.start.places s.places n.places passed.walked.since.ways ways_then;
        };
        unwoken = λ m place doc outside found wakes. (let was = it.wakes m place doc refl found wakes in passed.walked.unwoken (ap (λ (step : ℕ). all_stand s step) aim_was ∙ may.stand) m was.place doc refl was.placed was.wakes);
        still = still_on e.start s n awake_then (λ doc gone. ap (λ (l : List Document). holds (λ (d : Document). d.is_discarded) (find (λ (d : Document). d.nr.0 == doc.0) l)) documents_same ∙ gone) (passed.walked.still (ap (λ (step : ℕ). all_stand s step) aim_was ∙ may.stand));
        moves = moves_then;
        leavers = leavers_then;
        were = subst (λ (x : Seen). WereShown x) (sym now_is) (were_shown s e.event e.actor passed.walked.were (rows.Applied load.req change) tt);
        parents = parents_then;
        held = held_then passed.held;
        takers = takers_then;
      })
    where
      parents_then : ParentsShown n
      parents_then m above place up placed has there =
          let was = was_at m place placed in
          let was_up = was_at above up there in
          ap (λ (o : Option DocId). is_some o) (ap (λ (x : Place). x.last) (sym was_up.is) ∙ taker_same (λ (x : Place). x.last) (λ x. refl) was_up.old)
          ∙ passed.walked.parents m above was.old was_up.old was.found (ap (λ (l : List NavId). has_nav l above) (sym (taker_same (λ (x : Place). x.above) (λ x. refl) was.old) ∙ ap (λ (x : Place). x.above) was.is) ∙ has) was_up.found

      takers_then : TakersServe n
      takers_then m place req placed is =
          by_test (has_row was.old.nav s.history.rows && not (has_row was.old.nav (applied s.history change).rows)) refl
        where
          was : WasAt m place
          was = was_at m place placed

          reads : (b : Bool) → (has_row was.old.nav s.history.rows && not (has_row was.old.nav (applied s.history change).rows)) ≡ b → (let x : Place = cond b (record was.old { taken_by = Some load.req }) was.old in x).taken_by ≡ Some req
          reads b at_ =
              ap (λ (c : Bool). let x : Place = cond c (record was.old { taken_by = Some load.req }) was.old in x.taken_by) (sym at_)
              ∙ ap (λ (x : Place). x.taken_by) was.is
              ∙ is

          by_test : (b : Bool) → (has_row was.old.nav s.history.rows && not (has_row was.old.nav (applied s.history change).rows)) ≡ b → MayServe n req
          by_test true at_ =
              let two : Some load.req ≡ Some req = reads true at_ in
              let one : load.req ≡ req = cc in
              subst (λ (x : ReqId). MayServe n x) one serves
          by_test false at_ =
              let before : MayServe s req = passed.takers m was.old req was.found (reads false at_) in
              it.causes (whys.Req req) (λ r same. (let one : req ≡ r = cc in subst (λ (x : ReqId). MayServe s x) one before)) req refl
