-- A navigable that is moved to another document leaves its own for a reason, and so does each one below it: their documents are left duly.
use Rattle.log_model.proofs.Refl.{nat_eq_refl}
use Rattle.log_model.specs.Equal.{holds}
use Rattle.log_model.specs.History.{has_nav, has_row, target_entry, used_step_at}
use Rattle.log_model.specs.Places.{aim_of, is_asleep, is_traversal, is_under_way, way_of}
use Rattle.log_model.specs.Seen.{Asked, Document, Place, Seen, Status, asleep, awake, document_of, lost, place_of, request_in, request_of}
use Rattle.log_model.specs.Soundness.{IsSound}
use Rattle.log_model.specs.declared.job.Why.{Why}
use Rattle.log_model.specs.declared.row.Row.{Row}
use Rattle.log_model.specs.declared.row_kind.RowKind.{RowKind}
use Rattle.row_facts.proofs.Owed.Requests.{req_same}
use Rattle.seen_facts.proofs.Hang.Forms.{nav_is}
use Rattle.seen_facts.proofs.Hang.Parts.{state_is}
use Rattle.seen_facts.proofs.Walk.Placed.{found_nav}
use Rattle.seen_facts.specs.Asked.Asking.{ArePlain, IsAskedPlainly}
use Rattle.seen_facts.specs.Each.Runs.{OnlyRuns}
use Rattle.seen_facts.specs.Hang.Hanging.{Hangs}
use Rattle.seen_facts.specs.Home.Homes.{EachWake, HangsOnAwake, IsAtHome, IsHomed}
use Rattle.seen_laws.proofs.InEvents.{now_is}
use Rattle.seen_laws.specs.InEvent.{log_of, now_of}
use Rattle.seen_laws.specs.Unasked.{unasked}
use Rattle.std.proofs.Common.{Bool, List, None, Option, Some, ap, false, inl, inr, refl, subst, sym, true, ℕ, ◌&&◌, ◌==◌, ◌||◌, ◌∙◌, ◌≡◌, ◌≤◌, ◌⊎◌}
use Rattle.std.specs.Option.{option_map_or}
use Rattle.std.proofs.lemmas.Bool.{and_parts}
use Rattle.std.specs.Prelude.{is_none, is_some, option_and_then}
use Rattle.tab_doors.specs.declared.tables.Tables.{Tables}
use Rattle.tab_facts.specs.FrameWhole.Tab.{AreAwakeWithRows}
use Rattle.tab_ids.specs.declared.DocId.{DocId}
use Rattle.tab_ids.specs.declared.NavId.{NavId}
use Rattle.tab_ids.specs.declared.ReqId.{ReqId}
use Rattle.tab_ids.specs.declared.StateId.{StateId}
use Rattle.tab_ids.specs.declared.Step.{Step}
use Rattle.tab_evicts.proofs.Quiets.{one_of_state}
use Rattle.tab_moves.proofs.Lasts.{live_parts}
use Rattle.tab_moves.specs.Moving.{AreLeftUnder, IsAtOrBelow}
use Rattle.tab_moves.specs.PassedOn.{IsPassing}
use Rattle.tab_passes.proofs.Aims.{passed_is, running_is}
use Rattle.tab_passes.proofs.PassedOn.{IsGoing, IsMoved, IsMovedThere, below_sleeps, left_duly}
use Rattle.tab_passes.specs.Leaving.{IsLeaver, IsLeftDulyFor}
use Rattle.tab_walk.specs.Moving.{InMove, IsBound}

both : {a b : Bool} → a ≡ true → b ≡ true → (a && b) ≡ true
both p q = rw (p, q) refl

-- where a traversal is under way, the history is brought to the step of its goal
module _ (s : Seen) (run : Option ReqId) (asked : ArePlain run s) where
  going_runs : (req : ReqId) (q : Asked) (goal : Step) → IsGoing s req q goal → option_and_then (λ (r : ReqId). request_in s.requests r) run ≡ Some q
  going_runs req q goal is = by_run run asked.only
    where
      by_run : (o : Option ReqId) → OnlyRuns o s → option_and_then (λ (r : ReqId). request_in s.requests r) o ≡ Some q
      by_run None only = (let never : true ≡ false = sym (both is.going is.traverses) ∙ only req q is.found in absurd cc)
      by_run (Some r) only =
          let one : (r.0 == req.0) ≡ true = sym (only req q is.found) ∙ both is.going is.traverses in
          ap (λ (x : ReqId). request_in s.requests x) (req_same r req one) ∙ is.found

  aim_going : (req : ReqId) (q : Asked) (goal : Step) → IsGoing s req q goal → aim_of s ≡ used_step_at s.history.rows goal.0
  aim_going req q goal is =
      ap (λ (o : Option Asked). option_map_or (λ (x : Asked). option_map_or (λ (g : Step). used_step_at s.history.rows g.0) x.goal s.history.current) o s.history.current) (passed_is s run asked ∙ running_is s run asked ∙ going_runs req q goal is)
      ∙ ap (λ (g : Option Step). option_map_or (λ (x : Step). used_step_at s.history.rows x.0) g s.history.current) is.goal_is

-- what is known, of whatever the log has come to, of a navigable that leaves what it shows, and of a document on which it or one below it is awake
record IsKnown (x : Seen) (moved : NavId) (why : Why) (nav : NavId) (place : Place) (doc : DocId) (d : Document) : Type 0 where
  sound : IsSound x.history
  hangs : Hangs x
  hung : EachWake (HangsOnAwake x) x
  leaver : IsLeaver x why moved
  moves : (req : ReqId) (q : Asked) → request_of x req ≡ Some q → (is_traversal q.what && is_under_way q) ≡ true → IsMovedThere x moved q
  at : place_of x nav ≡ Some place
  found : document_of x doc ≡ Some d
  placed : has_row nav x.history.rows ≡ true

module _ (m : InMove) (why : Why) (out : List RowKind) (t : Tables) (passing : IsPassing m.pass out t) (bound : IsBound m t.running (now_of m.pass.event out)) (leaver : 1 ≤ bound.place.epoch.0 → IsLeaver (now_of m.pass.event out) why m.nav) (rows_ : AreAwakeWithRows (now_of m.pass.event out)) where
  abbrev s : Seen
  s = now_of m.pass.event out

  -- the states of the two documents differ
  apart : (bound.target.state.0 == m.state.0) ≡ false
  apart = by_test (bound.target.state.0 == m.state.0) refl
    where
      parts : (bound.new.state ≡ bound.target.state) × (bound.new.is_ready ≡ true) × (bound.new.is_discarded ≡ false) × (bound.new.is_known_dead ≡ false)
      parts = live_parts bound.target.state bound.new bound.usable

      by_test : (b : Bool) → (bound.target.state.0 == m.state.0) ≡ b → (bound.target.state.0 == m.state.0) ≡ false
      by_test false is = is
      by_test true is =
          let states : bound.old.state ≡ bound.new.state = bound.old_state ∙ sym (state_is bound.target.state m.state is) ∙ sym parts.0 in
          let one : m.left ≡ m.doc = one_of_state s passing.going.tab.docs m.left m.doc bound.old bound.new bound.old_found bound.new_found states bound.undiscarded parts.2 in
          let never : true ≡ false = sym (ap (λ (d : DocId). d.0 == m.doc.0) one ∙ nat_eq_refl m.doc.0) ∙ bound.apart in
          absurd cc

  -- ---- it is awake

  module _ (x : DocId) (wakes : bound.place.status ≡ awake x) where
    homed : IsHomed s.documents bound.place x
    homed = passing.going.tab.homes.homed m.nav bound.place x bound.placed wakes

    doc_is : x ≡ m.left
    doc_is = let last : Some x ≡ Some m.left = sym homed.last ∙ bound.last in cc

    moved : (step : ℕ) → aim_of s ≡ step → IsMoved s step m.nav
    moved step aim =
        record {
          place = bound.place;
          there = bound.placed;
          doc = x;
          wakes = wakes;
          document = bound.old;
          found = ap (λ (d : DocId). document_of s d) doc_is ∙ bound.old_found;
          leaves =
              ap (λ (o : Option Row). holds (λ (row : Row). row.state.0 == bound.old.state.0) o) (ap (λ (k : ℕ). target_entry s.history.rows m.nav k) (sym aim) ∙ bound.at)
              ∙ ap (λ (state : StateId). bound.target.state.0 == state.0) bound.old_state ∙ apart;
        }

    moves : (req : ReqId) (q : Asked) → request_of s req ≡ Some q → (is_traversal q.what && is_under_way q) ≡ true → IsMovedThere s m.nav q
    moves req q found is = by_goal q.goal refl (asked.goal parts.0 (and_parts q.is_started (is_none q.ending) parts.1).0)
      where
        parts : (is_traversal q.what ≡ true) × (is_under_way q ≡ true)
        parts = and_parts (is_traversal q.what) (is_under_way q) is

        asked : IsAskedPlainly req q
        asked = passing.going.tab.asked.each req q found

        by_goal : (o : Option Step) → q.goal ≡ o → is_some o ≡ true → IsMovedThere s m.nav q
        by_goal None none h = absurd cc
        by_goal (Some goal) goal_is h =
            record {
              goal = goal;
              goal_is = goal_is;
              moves = moved (used_step_at s.history.rows goal.0) (aim_going s t.running passing.going.tab.asked req q goal (record { found = found; going = parts.1; traverses = parts.0; goal_is = goal_is }));
            }

    -- one that is awake at or below it
    module _ (other : NavId) (place : Place) (doc : DocId) (under : IsAtOrBelow m.nav other place) (at : place_of s other ≡ Some place) (up : place.status ≡ awake doc) where
      named : place.nav ≡ other
      named = found_nav s.places other place at

      home : IsAtHome s.documents place.nav doc
      home = (passing.going.tab.homes.homed other place doc at up).home

      below : has_nav (way_of place) m.nav ≡ true
      below = by_under under
        where
          by_first : (b : Bool) → has_nav place.above m.nav ≡ true → (b || has_nav place.above m.nav) ≡ true
          by_first true has = refl
          by_first false has = has

          by_under : IsAtOrBelow m.nav other place → has_nav (way_of place) m.nav ≡ true
          by_under (inl same) = ap (λ (n : NavId). (n.0 == m.nav.0) || has_nav place.above m.nav) named ∙ rw same refl
          by_under (inr has) = by_first (place.nav.0 == m.nav.0) has

      known : IsKnown s m.nav why other place doc home.document
      known =
          record {
            sound = passing.going.tab.sound;
            hangs = passing.going.tab.hangs;
            hung = passing.going.tab.homes.hung;
            leaver = leaver ((passing.going.tab.standing m.nav bound.place bound.placed).shown x wakes);
            moves = moves;
            at = at;
            found = home.found;
            placed = ap (λ (n : NavId). has_row n s.history.rows) (sym named) ∙ rows_ other place doc at up;
          }

      left_up : IsLeftDulyFor (log_of m.pass.event out) doc why
      left_up =
          let it : IsKnown (unasked m.pass.event.checking (log_of m.pass.event out)) m.nav why other place doc home.document = subst (λ (x : Seen). IsKnown x m.nav why other place doc home.document) (now_is m.pass.event out) known in
          left_duly m.pass.event.checking (log_of m.pass.event out) passing.duly it.sound it.hangs it.hung m.nav why it.leaver it.moves other place doc home.document it.at up it.found (home.nav_is ∙ named) below it.placed

  -- ---- it isn't

  -- so nobody below it is
  none_up : bound.place.status ≡ asleep → (other : NavId) (place : Place) (doc : DocId) → IsAtOrBelow m.nav other place → place_of s other ≡ Some place → place.status ≡ awake doc → ⊥
  none_up sleeps other place doc (inl same) at up =
      let both_ : Some bound.place ≡ Some place = sym bound.placed ∙ ap (λ (n : NavId). place_of s n) (sym (nav_is other m.nav same)) ∙ at in
      let here : bound.place ≡ place = cc in
      let no_ : asleep ≡ awake doc = sym sleeps ∙ ap (λ (p : Place). p.status) here ∙ up in
      cc
  none_up sleeps other place doc (inr below) at up =
      let test : is_asleep place ≡ true = below_sleeps t.running m.pass.loads m.pass.hand s passing.going.tab m.nav bound.place bound.placed sleeps other place at below in
      let never : is_asleep place ≡ false = rw up refl in
      absurd cc

  -- ---- both

  pub lefts_under : AreLeftUnder m.pass.event out m.nav why
  lefts_under other place doc under at up = by_status bound.place.status refl
    where
      by_status : (st : Status) → bound.place.status ≡ st → IsLeftDulyFor (log_of m.pass.event out) doc why
      by_status (awake x) is = left_up x is other place doc under at up
      by_status asleep is = absurd (none_up is other place doc under at up)
      by_status lost is = absurd ((passing.going.tab.standing m.nav bound.place bound.placed).unlost is)
