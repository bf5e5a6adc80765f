-- A load has begun: all goes on, and its navigable stands still.
use Rattle.log_model.specs.declared.request.Request.{Request}
use Rattle.log_model.specs.Orders.{due_questions}
use Rattle.seen_facts.specs.Home.Homes.{AreHomed}
use Rattle.seen_facts.specs.Hang.Hanging.{Hangs}
use Rattle.log_model.specs.Soundness.{IsSound}
use Rattle.seen_laws.proofs.InEvents as events
use Rattle.seen_laws.specs.Unasked.{unasked}
use Rattle.tab_passes.proofs.PassedOn.{AreLeftDuly, bare_load_duly, duly_then}
use Rattle.seen_laws.proofs.InEvents.{last_goes, now_at}
use Rattle.seen_facts.specs.Asked.Asking.{ArePlain}
use Rattle.tab_facts.proofs.Calm.Awakes.{lost_none}
use Rattle.seen_facts.proofs.Coord.Unread.{next}
use Rattle.tab_facts.proofs.Last.Rows.{started_lasting}
use Rattle.seen_facts.specs.LoadEnds.Standing.{is_reached}
use Rattle.row_facts.proofs.LoadRows.Earlier.{no_earlier_stays}
use Rattle.row_facts.specs.LoadRows.Beginning.{begins_no_earlier, IsLoadToBegin}
use Rattle.log_model.proofs.Refl.{nat_eq_refl}
use Rattle.log_model.specs.Equal.{holds}
use Rattle.log_model.specs.History.{History, has_nav}
use Rattle.log_model.specs.Once.{has_no_earlier_load}
use Rattle.log_model.specs.Places.{aim_of, has_arrived, is_below_known_lost, is_given_target, is_placed, is_shown, is_standing, way_to}
use Rattle.log_model.specs.Seen.{Asked, Place, Seen, place_of}
use Rattle.log_model.specs.declared.header.Header.{Header}
use Rattle.log_model.specs.declared.row_kind.RowKind.{RowKind}
use Rattle.row_facts.proofs.Owed.Drops.{sole_owes}
use Rattle.row_facts.proofs.Owed.Ends.{loose_owed, loose_since}
use Rattle.row_facts.specs.Owed.Owed.{IsLoose}
use Rattle.row_facts.proofs.RestRows.Rows.{started_rests}
use Rattle.row_facts.specs.RestRows.Moving.{AllRest}
use Rattle.seen_laws.specs.InEvent.{now_of, row_of, here_of, log_of}
use Rattle.std.proofs.Common.{Bool, List, None, Option, Some, [], ap, arith, false, length, not, refl, subst, sym, true, ℕ, ◌&&◌, ◌++◌, ◌==◌, ◌||◌, ◌∙◌, ◌∷◌, ◌≡◌, ◌≤◌}
use Rattle.std.proofs.lemmas.Bool.Decides.{nat_tests}
use Rattle.std.proofs.lemmas.Bool.{and_parts}
use Rattle.std.specs.List.{list_all, list_any}
use Rattle.std.specs.Prelude.{is_some, nat_lt}
use Rattle.tab_doors.specs.Working.{IsAtWork, KeepsRun, KeepsStore}
use Rattle.tab_doors.specs.declared.tables.Tables.{Tables}
use Rattle.tab_drops.specs.Dropping.{AreUnheld}
use Rattle.tab_facts.proofs.TabGoing.Changes.{load_begun_going}
use Rattle.tab_facts.specs.TabGoing.Going.{IsGoing}
use Rattle.tab_ids.specs.declared.DocId.{DocId}
use Rattle.tab_ids.specs.declared.NavId.{NavId}
use Rattle.tab_ids.specs.declared.ReqId.{ReqId}
use Rattle.tab_ids.specs.declared.StateId.{StateId}
use Rattle.tab_ids.specs.declared.Step.{Step}
use Rattle.tab_loads.proofs.Comes.{pass, place}
use Rattle.tab_loads.proofs.Firsts.{q}
use Rattle.tab_loads.proofs.Gives.{IsMadeWay}
use Rattle.tab_loads.specs.Asking.{BeginsAnew, InLoad, IsAsked}
use Rattle.tab_loads.specs.Giving.{HasMadeWay}
use Rattle.tab_loads.specs.Loading.{pass_of}
use Rattle.tab_loads.specs.Telling.{away_in}
use Rattle.tab_moves.proofs.Procs.{home_some}
use Rattle.tab_moves.specs.Making.{home_in}
use Rattle.tab_one_pass.proofs.Lives.{placed_awake}
use Rattle.tab_passes.proofs.Aims.{aim_is}
use Rattle.tab_passes.specs.Passing.{IsPassing, aim_in}
use Rattle.tab_stands.proofs.PassedOn.{IsReachedAt, reached_at, reached_same}
use Rattle.tab_facts.proofs.TabWhole.Beginning.{load_begun_tab}
use Rattle.tab_facts.specs.TabWhole.Tab.{IsTab}
use Rattle.seen_facts.specs.Walk.Serving.{is_in_place, is_stopping}
use Rattle.log_model.specs.declared.row_kind.RowKind.TheVariants as rows
use Rattle.tab_loads.proofs.Starts as starts

either : (a : Bool) {b : Bool} → b ≡ true → (a || b) ≡ true
either true is = refl
either false is = is

neither : (a : Bool) → (a && false) ≡ false
neither true = refl
neither false = refl

-- a test that none of these passes
none_of : (f : NavId → Bool) (navs : List NavId) → ((nav : NavId) → has_nav navs nav ≡ true → f nav ≡ false) → list_any f navs ≡ false
none_of f [] each = refl
none_of f (nav ∷ navs) each =
    rw (each nav (ap (λ (b : Bool). b || has_nav navs nav) (nat_eq_refl nav.0))) (none_of f navs (λ x has. each x (either (nav.0 == x.0) has)))

-- no number is below itself
none_below : (n : ℕ) → nat_lt n n ≡ false
none_below n = grind (arith, nat_tests)

module _ (l : InLoad) (t : Tables) (asked : IsAsked l t) (placed_ : away_in t l.nav ≡ None) (anew_ : BeginsAnew l t) (noted : List (StateId × ReqId)) (v : Tables) (out : List RowKind) (way : HasMadeWay l.event l.req l.nav t v out l.noted noted) (w : Tables) (now : List RowKind) (work : IsAtWork l.event now w) (now_is : now ≡ out ++ rows.Started l.req None ∷ []) (keeps : KeepsStore v w) where
  abbrev s : Seen
  s = now_of l.event []

  abbrev n : Seen
  n = now_of l.event out

  abbrev own : Asked
  own = q l.event l.req l.nav l.mode l.address asked.asks

  abbrev unheld : AreUnheld l.event s
  unheld = starts.unheld l t asked placed_ anew_ noted v out way

  abbrev made : IsMadeWay l.event l.req l.nav l.mode l.address asked.asks t (pass l t asked) unheld l.noted asked.begun.taking asked.begun.theirs n out noted
  made = starts.made l t asked placed_ anew_ noted v out way

  abbrev runs_on : KeepsRun t v
  runs_on = starts.runs_on l t asked placed_ anew_ noted v out way

  abbrev own_place : Place
  own_place = place l t asked

  abbrev there : place_of n l.nav ≡ Some own_place
  there = starts.there l t asked placed_ anew_ noted v out way

  abbrev way_placed : list_all (is_placed n (aim_of n)) (way_to n l.nav) ≡ true
  way_placed = starts.way_placed l t asked placed_ anew_ noted v out way

  abbrev pub then_ : Seen
  then_ = next n l.event.event l.event.actor (rows.Started l.req None)

  pub is_then : now_of l.event now ≡ then_
  is_then = now_at l.event out (rows.Started l.req None) now now_is work.goes

  pub run_same : w.running ≡ t.running
  run_same = keeps.running ∙ runs_on.running

  pub keep_same : w.kept.keep ≡ t.kept.keep
  keep_same = keeps.keep ∙ runs_on.keep

  pub tab_then : IsTab t.running l.loads [] then_
  tab_then =
      load_begun_tab t.running l.req l.loads [] n l.event.event l.event.actor made.going.tab own l.nav l.mode l.address (record {
        there = made.found;
        what = refl;
        open_ = refl;
        placed = record { place = own_place; found = there };
        unsent = refl;
        alone = λ other m at on its. made.alone other (record { look = m; at = at; ongoing = on; loads_it = its });
      })

  pub going_then : IsGoing t.running l.loads [] then_
  going_then =
      load_begun_going t.running (l.req ∷ l.loads) [] n l.event.event l.event.actor made.going l.req own made.found None l.loads [] tab_then (started_lasting n l.event.event l.event.actor made.going.lasting l.req None)

  -- no earlier load is ongoing
  pub alone_now : has_no_earlier_load n l.req l.nav ≡ true
  alone_now = starts.alone_now l t asked placed_ anew_ noted v out way

  pub itself : begins_no_earlier n l.req l.nav (rows.Started l.req None) ≡ true
  itself = let same : nat_lt l.req.0 l.req.0 ≡ false = none_below l.req.0 in rw made.found (rw same refl)

  pub loose_then : IsLoose l.event (out ++ rows.Started l.req None ∷ [])
  loose_then =
      loose_since l.event out (rows.Started l.req None) (last_goes l.event out (rows.Started l.req None) now now_is work.goes).read made.paid (sole_owes l.event out l.req l.nav l.mode l.address own made.found refl refl (no_earlier_stays n (row_of l.event (rows.Started l.req None)) l.req l.nav itself alone_now))

  pub loose_now : IsLoose l.event now
  loose_now = subst (λ (o : List RowKind). IsLoose l.event o) (sym now_is) loose_then

  -- whom requests leave was asked, as the load asks nobody
  begun_duly : AreLeftDuly (log_of l.event now)
  begun_duly =
      duly_then l.event out (rows.Started l.req None) now now_is
      (bare_load_duly l.event.checking (log_of l.event out) l.event.event l.event.actor made.duly (bare (λ (x : Seen). IsSound x.history) made.going.tab.sound) (bare Hangs made.going.tab.hangs) (bare AreHomed made.going.tab.homes) l.req (starts.as_there l t asked placed_ anew_ noted v out way).q its.at l.nav l.mode l.address its.what (ap (λ (what : Request). due_questions (log_of l.event out) what None) its.what ∙ its.unasked))
    where
      its : IsLoadToBegin (here_of l.event out) l.req l.nav l.mode l.address (starts.as_there l t asked placed_ anew_ noted v out way).q
      its = starts.due l t asked placed_ anew_ noted v out way

      bare : (P : Seen → Type 0) → P n → P (unasked l.event.checking (log_of l.event out))
      bare P is = subst P (events.now_is l.event out) is

  pub passing_now : IsPassing (pass_of l.event l.loads) now w
  passing_now =
      record {
        work = work;
        going = subst (λ (x : Seen). IsGoing w.running l.loads [] x) (sym is_then) (subst (λ (r : Option ReqId). IsGoing r l.loads [] then_) (sym run_same) going_then);
        owed = loose_owed l.event now loose_now;
        loose = λ all_. loose_now;
        rests = subst (λ (x : Seen). AllRest x) (sym is_then) (started_rests n l.event.event l.event.actor [] made.rests l.req None);
        duly = begun_duly;
        few = subst (λ (k : ℕ). length (now_of l.event now).kept ≤ k) (sym keep_same) (subst (λ (k : List DocId). length k ≤ t.kept.keep) (sym (ap (λ (x : Seen). x.kept) is_then ∙ made.kept)) (pass l t asked).few);
      }

  -- ---- its navigable stands

  pub unlost : holds (λ (p : Place). not (is_below_known_lost n p)) (place_of n l.nav) ≡ true
  unlost =
      ap (λ (o : Option Place). holds (λ (p : Place). not (is_below_known_lost n p)) o) there
      ∙ ap not (lost_none n made.going.tab.standing own_place.above)

  pub reached : is_reached n l.nav ≡ true
  reached = let both_ : (list_all (is_placed n (aim_of n)) (way_to n l.nav) && holds (λ (p : Place). not (is_below_known_lost n p)) (place_of n l.nav)) ≡ true = rw (way_placed, unlost) refl in both_

  abbrev pub m : Seen
  m = now_of l.event now

  pub places_same : m.places ≡ n.places
  places_same = ap (λ (x : Seen). x.places) is_then

  pub history_same : m.history ≡ n.history
  history_same = ap (λ (x : Seen). x.history) is_then

  pub aim_same : aim_of m ≡ aim_of n
  aim_same =
      aim_is m w.running passing_now.going.tab.asked w.goal work.goal
      ∙ ap (λ (h : History). aim_in h w.running w.goal) history_same
      ∙ ap (λ (r : Option ReqId). aim_in n.history r w.goal) keeps.running
      ∙ ap (λ (g : Step). aim_in n.history v.running g) keeps.goal
      ∙ sym (aim_is n v.running asked_there v.goal way.work.goal)
    where
      asked_there : ArePlain v.running n
      asked_there = subst (λ (r : Option ReqId). ArePlain r n) (sym runs_on.running) made.going.tab.asked

  pub reached_now : is_reached m l.nav ≡ true
  reached_now = reached_same n m places_same history_same aim_same l.nav reached

  pub its : IsReachedAt m l.nav
  its = reached_at m l.nav reached_now

  -- nobody above stops the walk
  pub unstopped : list_any (is_stopping m.history.rows (aim_of m) m.places) its.place.above ≡ false
  unstopped = none_of (is_stopping m.history.rows (aim_of m) m.places) its.place.above goes_on_
    where
      goes_on_ : (x : NavId) → has_nav its.place.above x ≡ true → is_stopping m.history.rows (aim_of m) m.places x ≡ false
      goes_on_ x has = by_place (place_of m x) refl
        where
          stands_ : is_placed m (aim_of m) x ≡ true
          stands_ = its.each x (either (l.nav.0 == x.0) has)

          by_place : (o : Option Place) → place_of m x ≡ o → is_stopping m.history.rows (aim_of m) m.places x ≡ false
          by_place None at =
              let off : is_placed m (aim_of m) x ≡ false = ap (λ (o : Option Place). is_shown m.history.rows (aim_of m) x && holds (is_standing m.history.rows (aim_of m)) o) at ∙ neither (is_shown m.history.rows (aim_of m) x) in
              let never : true ≡ false = sym stands_ ∙ off in absurd cc
          by_place (Some p) at =
              let wakes = placed_awake w.running l.loads [] m passing_now.going.tab x p at stands_ in
              let stand : is_standing m.history.rows (aim_of m) p ≡ true = sym (ap (λ (o : Option Place). holds (is_standing m.history.rows (aim_of m)) o) at) ∙ (and_parts (is_shown m.history.rows (aim_of m) x) (holds (is_standing m.history.rows (aim_of m)) (place_of m x)) stands_).1 in
              let target_ : is_given_target m.history.rows (aim_of m) p ≡ true = (and_parts (is_given_target m.history.rows (aim_of m) p) (not p.is_unmet) (and_parts (is_given_target m.history.rows (aim_of m) p && not p.is_unmet) (has_arrived p) stand).0).0 in
              ap (λ (o : Option Place). not (holds (is_in_place m.history.rows (aim_of m)) o)) at ∙ rw wakes.1 (rw target_ refl)

  pub home_there : (header : Header) (address : List ℕ) → is_some (home_in header w l.nav address) ≡ true
  home_there header address =
      home_some (pass_of l.event l.loads) now w passing_now l.nav its.place its.placed unstopped header address
