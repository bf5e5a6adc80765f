-- A load is dropped for the traversal that runs, or for a load that was applied: each end pays it that undoes nothing which orders leave; and not all stand.
use Rattle.tab_doors.proofs.PassedOn.{dropped_goes}
use Rattle.seen_facts.proofs.Coord.Unread.{next}
use Rattle.seen_facts.specs.Each.Runs.{is_run, is_this}
use Rattle.row_facts.proofs.LoadRows.Drops.{displaced_at, off_at}
use Rattle.row_facts.specs.LoadRows.Dropping.{IsLoadBy, IsMovedBy, IsStillMovedBy}
use Rattle.log_model.proofs.Refl.{nat_eq_refl}
use Rattle.log_model.specs.Causes.{changed_one_of, nav_of_change}
use Rattle.log_model.specs.Equal.{holds}
use Rattle.log_model.specs.History.{has_nav}
use Rattle.log_model.specs.Places.{aim_of, all_stand, has_passed, is_shown, is_traversal, is_under_way, stands, way_of, way_to}
use Rattle.log_model.specs.Points.{had_ended}
use Rattle.log_model.specs.Seen.{Asked, Place, Seen, request_of}
use Rattle.log_model.specs.declared.change.Change.{Change}
use Rattle.log_model.specs.declared.outcome.Cause.{Cause}
use Rattle.log_model.specs.declared.outcome.Ending.{Ending}
use Rattle.log_model.specs.declared.row_kind.RowKind.{RowKind}
use Rattle.row_facts.proofs.Owed.Drops.{moved_owes, still_moved_owes}
use Rattle.row_facts.proofs.Owed.Ends.{owed_more}
use Rattle.row_facts.proofs.Owed.Rows.{dropped_stays, reckoned_now}
use Rattle.row_facts.specs.Owed.Owed.{IsLoose, IsOwed}
use Rattle.seen_laws.specs.Blocks.{point_at}
use Rattle.seen_laws.specs.InEvent.{now_of, seen_here}
use Rattle.std.proofs.Common.{Bool, List, None, Option, Some, [], ap, false, inl, inr, refl, sym, true, ℕ, ◌++◌, ◌∙◌, ◌∷◌, ◌≡◌, ◌⊎◌}
use Rattle.std.proofs.lemmas.Bool.{and_parts, and_right}
use Rattle.std.specs.Option.{option_map_or}
use Rattle.std.specs.Prelude.{is_none, option_and_then}
use Rattle.tab_doors.specs.declared.tables.Tables.{Tables}
use Rattle.tab_drops.proofs.Drops.{idle}
use Rattle.tab_drops.proofs.Endings.{open_before}
use Rattle.tab_drops.proofs.Loads.{IsAskedFor, asked_for}
use Rattle.tab_drops.specs.Dropping.{IsLoadOf, IsUnsettled}
use Rattle.tab_drops.specs.Turns.{GivesWay, IsByLoad}
use Rattle.tab_ids.specs.declared.NavId.{NavId}
use Rattle.tab_ids.specs.declared.ReqId.{ReqId}
use Rattle.tab_moves.proofs.Needing.{aim_is}
use Rattle.tab_moves.specs.PassedOn.{IsPassingIn}
use Rattle.tab_moves.specs.Moving.{InPass}
use Rattle.tab_moves.specs.Showing.{aim_in}
use Rattle.row_facts.proofs.WalkRows.Needs.{dropped_stood, need_not_all_stand, need_stands_not}
use Rattle.log_model.specs.declared.outcome.Cause.TheVariants as causes
use Rattle.log_model.specs.declared.row_kind.RowKind.TheVariants as rows

module _ {sweeps : Bool} (p : InPass) (out : List RowKind) (t : Tables) (pass : IsPassingIn sweeps p out t) (req : ReqId) (nav : NavId) (load : IsLoadOf (now_of p.event out) req nav) (by : ReqId) (away : IsUnsettled (now_of p.event out) nav) where
  abbrev s : Seen
  s = now_of p.event out

  its : IsAskedFor s req nav
  its = asked_for s req nav load

  -- who is in need is on the way, and doesn't stand
  on_way : has_nav (way_to s nav) away.mover ≡ true
  on_way = ap (λ (o : Option Place). has_nav (option_map_or way_of o (nav ∷ [])) away.mover) away.placed ∙ away.on_way

  off : stands s (aim_of s) away.mover ≡ false
  off = need_stands_not s away.mover away.own away.there away.need

  -- so not all stand, nor do they after the drop
  pub loose_then : (cause : Cause) → all_stand (next s p.event.event p.event.actor (rows.Dropped req cause)) (aim_of (next s p.event.event p.event.actor (rows.Dropped req cause))) ≡ true → IsLoose p.event (out ++ rows.Dropped req cause ∷ [])
  loose_then cause all =
      let stood : all_stand s (aim_of s) ≡ true = dropped_stood s p.event.event p.event.actor req cause (idle p out t pass req nav load) all in
      let never : false ≡ true = sym (need_not_all_stand s away.mover away.own away.there away.need) ∙ stood in
      absurd cc

  -- the other request is there
  dropped_by : (r : Asked) → request_of s by ≡ Some r → IsLoadBy (seen_here p.event out) (now_of p.event out) req by nav its.q r
  unfolding now_of
  dropped_by r found = record { at = its.at; mode = its.mode; address = its.address; what = its.what; other = found }

  -- ---- the traversal that runs

  record IsRunningThere : Type 0 where
    q : Asked
    found : request_of s by ≡ Some q
    traverses : is_traversal q.what ≡ true
    began : q.is_started ≡ true
    unended : q.ending ≡ None
    passed : has_passed s q ≡ true

  none_of : (o : Option Ending) → is_none o ≡ true → o ≡ None
  none_of None is = refl
  none_of (Some ending) is = absurd cc

  running_there : t.running ≡ Some by → IsRunningThere
  running_there runs =
      let it = pass.going.tab.asked.runs by runs in
      let run : is_run it.q ≡ true = pass.going.tab.asked.only by it.q it.found ∙ ap (λ (o : Option ReqId). is_this o by) runs ∙ nat_eq_refl by.0 in
      let under : is_under_way it.q ≡ true = (and_parts (is_under_way it.q) (is_traversal it.q.what) run).0 in
      let parts = and_parts it.q.is_started (is_none it.q.ending) under in
      record {
        q = it.q;
        found = it.found;
        traverses = it.traverses;
        began = parts.0;
        unended = none_of it.q.ending parts.1;
        passed = pass.going.tab.asked.passed by it.q it.found;
      }

  moved_by_run : t.running ≡ Some by → (it : IsRunningThere) → IsMovedBy (seen_here p.event out) (now_of p.event out) nav it.q
  moved_by_run runs it =
      let nr : it.q.nr ≡ by = (pass.going.tab.asked.each by it.q it.found).nr in
      record {
        traverses = it.traverses;
        began = it.began;
        passed = it.passed;
        unended = ap (had_ended (point_at (seen_here p.event out) [])) nr ∙ open_before p.event out by it.q it.found it.unended;
        displaced = displaced_at s (aim_of s) (way_to s nav) away.mover on_way (and_right (is_shown s.history.rows (aim_of s) away.mover) (stands s (aim_of s) away.mover) off);
      }

  run_owed : t.running ≡ Some by → IsOwed p.event (out ++ rows.Dropped req (causes.By by) ∷ [])
  run_owed runs =
      let it = running_there runs in
      owed_more p.event out (rows.Dropped req (causes.By by)) (dropped_goes p.event out req (causes.By by)).read pass.owed (dropped_stays s p.event.event p.event.actor req (reckoned_now p.event out) (idle p out t pass req nav load) (causes.By by)) (moved_owes p.event out req by nav its.q it.q (dropped_by it.q it.found) (moved_by_run runs it))

  -- ---- a load that was applied

  aim_here : t.running ≡ None → aim_of s ≡ s.history.current
  aim_here none =
      aim_is s t.running pass.going.tab.asked t.goal pass.work.goal ∙ ap (λ (o : Option ReqId). aim_in s.history o t.goal) none

  changed_there : (r : Asked) (change : Change) (top : NavId) → r.change ≡ Some change → nav_of_change change ≡ Some top → has_nav (way_to s nav) top ≡ true → changed_one_of r (way_to s nav) ≡ true
  changed_there r change top is of_it on =
      ap (λ (o : Option Change). holds (has_nav (way_to s nav)) (option_and_then nav_of_change o)) is ∙ ap (λ (o : Option NavId). holds (has_nav (way_to s nav)) o) of_it ∙ on

  still_moved : t.running ≡ None → (it : IsByLoad s by nav) → IsStillMovedBy (now_of p.event out) nav it.mover
  still_moved none it =
      let nr : it.mover.nr ≡ by = (pass.going.tab.asked.each by it.mover it.found).nr in
      record {
        last = it.last ∙ ap (λ (r : ReqId). Some r) (sym nr);
        unsettled = it.unstood;
        changed = changed_there it.mover it.change it.top it.changed it.its it.on_way;
        off = off_at s s.history.current (way_to s nav) away.mover on_way (ap (λ (step : ℕ). stands s step away.mover) (sym (aim_here none)) ∙ off);
      }

  load_owed : t.running ≡ None → IsByLoad s by nav → IsOwed p.event (out ++ rows.Dropped req (causes.By by) ∷ [])
  load_owed none it =
      owed_more p.event out (rows.Dropped req (causes.By by)) (dropped_goes p.event out req (causes.By by)).read pass.owed (dropped_stays s p.event.event p.event.actor req (reckoned_now p.event out) (idle p out t pass req nav load) (causes.By by)) (still_moved_owes p.event out req by nav its.q it.mover (dropped_by it.mover it.found) (still_moved none it))

-- either
pub gives_owed : {sweeps : Bool} (p : InPass) (out : List RowKind) (t : Tables) (pass : IsPassingIn sweeps p out t) (req : ReqId) (nav : NavId) (load : IsLoadOf (now_of p.event out) req nav) (by : ReqId) → GivesWay (now_of p.event out) t.running by nav → IsOwed p.event (out ++ rows.Dropped req (causes.By by) ∷ [])
gives_owed p out t pass req nav load by gives = by_cause gives.cause
  where
    by_cause : (t.running ≡ Some by) ⊎ ((t.running ≡ None) × IsByLoad (now_of p.event out) by nav) → IsOwed p.event (out ++ rows.Dropped req (causes.By by) ∷ [])
    by_cause (inl runs) = run_owed p out t pass req nav load by gives.away runs
    by_cause (inr both) = load_owed p out t pass req nav load by gives.away both.0 both.1
