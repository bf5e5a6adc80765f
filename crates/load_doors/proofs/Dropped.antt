-- A load is dropped, and the coordinator goes on working.
use Rattle.unasked.proofs.Nows.{dropped_goes}
use Rattle.seen_laws.specs.Unasked.{unasked_request}
use Rattle.unasked_dues.proofs.Dues.{part_of}
use Rattle.unasked.proofs.Readings.{found_from, under_way_read}
use Rattle.log_model.specs.Places.{is_load, is_under_way}
use Rattle.std.proofs.lemmas.Bool.{and_parts}
use Rattle.log_model.specs.Equal.{has_req}
use Rattle.seen_facts.specs.Each.Runs.{is_this}
use Rattle.row_facts.proofs.FrameRows.LawfulLaws.{ends_other}
use Rattle.load_doors.specs.Loading.{IsOpenHere}
use Rattle.load_table.specs.Loads.{KeepsOthers, cancelled, ongoing_load}
use Rattle.load_table.specs.declared.load.Load.{Load}
use Rattle.seen_facts.proofs.LoadTies.Ends.{cancelled_none, dropped_ended, load_ends, other_ends}
use Rattle.seen_facts.specs.LoadTies.Tying.{HasLoad, TiesLoads}
use Rattle.log_model.specs.After.{after, ended}
use Rattle.log_model.specs.Seen.{Asked, Seen, request_of}
use Rattle.log_model.specs.declared.outcome.Cause.{Cause}
use Rattle.log_model.specs.declared.row_kind.RowKind.{RowKind}
use Rattle.seen_facts.proofs.Request.Readers.{on_read}
use Rattle.seen_laws.proofs.InEvents.{led_here, now_is}
use Rattle.seen_laws.proofs.Owings.{drop_may}
use Rattle.seen_laws.specs.InEvent.{InEvent, here_of, log_of, now_of, row_of}
use Rattle.std.proofs.Common.{Bool, List, None, Some, [], ap, false, inl, refl, subst, sym, ◌++◌, ◌∙◌, ◌∷◌, ◌≡◌}
use Rattle.tab_doors.proofs.Ahead.{IsStep, step_owing}
use Rattle.tab_doors.proofs.EndLaws.{left_holds}
use Rattle.tab_doors.proofs.Requests.{ended_moved, moved_same, runs_ended_apart}
use Rattle.tab_doors.proofs.TurnWorks.{destroy_step}
use Rattle.tab_doors.proofs.Works.{at_seen, goal_read, goal_same, work_more}
use Rattle.tab_doors.specs.Dues.{IsDestroyDue}
use Rattle.tab_doors.specs.Keeping.{IsNoLoad}
use Rattle.tab_doors.specs.Look.{look_of, moved_by}
use Rattle.tab_doors.specs.Ties.{Holds}
use Rattle.tab_doors.specs.Working.{IsAtWorkIn, look_now}
use Rattle.tab_doors.specs.declared.tables.Tables.{Tables}
use Rattle.tab_ids.specs.declared.NavId.{NavId}
use Rattle.tab_ids.specs.declared.ReqId.{ReqId}
use Rattle.log_model.specs.declared.outcome.Cause.TheVariants as drops
use Rattle.log_model.specs.declared.outcome.Ending.TheVariants as endings
use Rattle.log_model.specs.declared.row_kind.RowKind.TheVariants as rows

module _ {sweeps : Bool} (e : InEvent) (out : List RowKind) (t : Tables) (req : ReqId) (work : IsAtWorkIn sweeps None e out t) (apart : is_this t.running req ≡ false) where
  abbrev then_dropped : Cause → Seen
  then_dropped cause = after (now_of e out) (row_of e (rows.Dropped req cause))

  abbrev pub with_loads : List Load → Tables
  with_loads next = record t { loads = next }

  -- the event's end owes the cause
  drop_owing : (by : ReqId) → IsOpenHere e out req → IsStep None None e out (rows.Dropped req (drops.By by))
  drop_owing by here =
      by_log (found_from e.checking (log_of e out) req here.asked (at_seen e out t work (λ (s : Seen). request_of s req ≡ Some here.asked) here.at))
    where
      by_log : (from : (q : Asked) × (request_of (log_of e out) req ≡ Some q) × (here.asked ≡ unasked_request e.checking q)) → IsStep None None e out (rows.Dropped req (drops.By by))
      by_log from =
          step_owing e out (rows.Dropped req (drops.By by)) (λ r. refl) (ends_other e out (rows.Dropped req (drops.By by)) req (refl, λ s. refl) here.unheld here.unparked) (λ later both. drop_may (here_of e out) e.event e.actor req by from.0 (led_here e out work.own) from.1 (rw is_open refl) (subst (λ (s : Seen). has_req s.parked req ≡ false) (now_is e out) here.unparked) later both.1)
        where
          is_open : from.0.ending ≡ None
          is_open =
              sym (part_of e.checking (λ (x : Asked). x.ending) (λ x. refl) (λ x. refl) from.0 here.asked from.2) ∙ here.open_

  dropped_work : (cause : Cause) (next : List Load) → e.checking req ≡ false → IsStep None None e out (rows.Dropped req cause) → TiesLoads (then_dropped cause) next → IsAtWorkIn sweeps None e (out ++ rows.Dropped req cause ∷ []) (with_loads next)
  dropped_work cause next off step loads =
      work_more e out (rows.Dropped req cause) None t (with_loads next) work (dropped_goes e out req cause) tt tt tt
      (on_tables (left_holds (look_now e out t.running) (look_of (then_dropped cause) t.running) t refl refl refl moved refl refl refl work.holds))
      (runs_ended_apart (now_of e out).requests t.running req (endings.Dropped cause) apart work.runs)
      (goal_same (now_of e out).requests (ended (now_of e out).requests req (endings.Dropped cause)) t.running t.goal (on_read goal_read (now_of e out).requests req (λ q. record q { ending = Some (endings.Dropped cause) }) (λ q. refl)) work.goal)
      work.few
      work.initial
      loads
      work.kept
      off
      step
      refl
      refl
      (inl refl)
    where
      moved : moved_by (then_dropped cause).requests t.running ≡ moved_by (now_of e out).requests t.running
      moved = moved_same (now_of e out).requests (ended (now_of e out).requests req (endings.Dropped cause)) t.running (ended_moved (now_of e out) e.event e.actor req (endings.Dropped cause))

      on_tables : Holds (look_of (then_dropped cause) t.running) t → Holds (look_of (then_dropped cause) t.running) (with_loads next)
      on_tables holds =
          record {
            navs = holds.navs;
            documents = holds.documents;
            whose = holds.whose;
            shown = holds.shown;
            last = holds.last;
            history = holds.history;
            numbered = holds.numbered;
            states = holds.states;
            entries = holds.entries;
            sent = holds.sent;
          }

  -- it is no ongoing load
  pub drop_new_work : (by : ReqId) → IsOpenHere e out req → IsNoLoad (now_of e out) req → e.checking req ≡ false → IsAtWorkIn sweeps None e (out ++ rows.Dropped req (drops.By by) ∷ []) t
  drop_new_work by here none off =
      dropped_work (drops.By by) t.loads off (drop_owing by here) (other_ends (now_of e out) (then_dropped (drops.By by)) req (dropped_ended (now_of e out) e.event e.actor req (drops.By by)) t.loads work.loads none)

  -- it is the load of a navigable
  module _ (nav : NavId) (next : List Load) (its : HasLoad t.loads nav req) (loads : next ≡ cancelled nav t.loads) (others : KeepsOthers nav t.loads next) where
    gone : ongoing_load nav next ≡ None
    gone = ap (λ (l : List Load). ongoing_load nav l) loads ∙ cancelled_none nav t.loads

    -- it is ongoing, so it isn't in its check
    off : e.checking req ≡ false
    off =
        let tied = work.loads.there nav its.load its.at in
        let parts = and_parts (is_under_way tied.q) (is_load tied.q.what) tied.ongoing in
        under_way_read e.checking (log_of e out) req tied.q (work.checks.numbered req) (subst (λ (s : Seen). request_of s req ≡ Some tied.q) (now_is e out) (ap (λ (r : ReqId). request_of (now_of e out) r) (sym its.req_is) ∙ tied.found)) parts.0

    ties_then : (cause : Cause) → TiesLoads (then_dropped cause) next
    ties_then cause =
        load_ends (now_of e out) (then_dropped cause) req (dropped_ended (now_of e out) e.event e.actor req cause) t.loads work.loads nav its.load its.at its.req_is next gone others

    pub drop_load_work : (by : ReqId) → IsOpenHere e out req → IsAtWorkIn sweeps None e (out ++ rows.Dropped req (drops.By by) ∷ []) (with_loads next)
    drop_load_work by here = dropped_work (drops.By by) next off (drop_owing by here) (ties_then (drops.By by))

    pub destroy_load_work : (by : ReqId) → IsDestroyDue e out req by → IsAtWorkIn sweeps None e (out ++ rows.Dropped req (drops.Destroyed by) ∷ []) (with_loads next)
    destroy_load_work by due = dropped_work (drops.Destroyed by) next off (destroy_step e out t req work apart by due) (ties_then (drops.Destroyed by))
