-- The report of an order that neither made nor showed a document is taken: where no document is left to be discarded, the coordinator has acted, which does nothing itself, whoever is in a check.
use Rattle.tab_doors.proofs.AskingLoads.{row_asking}
use Rattle.asking_facts.proofs.Passed.{known_on}
use Rattle.tab_stands.proofs.Logged.{once_of}
use Rattle.tab_stands.specs.Offs.{AreShownOnce}
use Rattle.log_model.specs.Equal.{holds}
use Rattle.log_model.specs.History.{has_state}
use Rattle.log_model.specs.Orders.{ongoing_load}
use Rattle.log_model.specs.Places.{is_ongoing_load}
use Rattle.log_model.specs.After.{after}
use Rattle.log_model.specs.Queue.{is_delivered_duly}
use Rattle.log_model.specs.Seen.{Asked, Document, Place, Seen, desk_of}
use Rattle.log_model.specs.declared.job.Task.{Task}
use Rattle.log_model.specs.declared.job.Task.TheVariants as tasks
use Rattle.log_model.specs.declared.made.Made.{Made}
use Rattle.log_model.specs.declared.made.Report.{Report}
use Rattle.log_model.specs.declared.job.Job.{Job}
use Rattle.log_model.specs.declared.made.Report.TheVariants as reports
use Rattle.log_model.specs.declared.outcome.Outcome.{Outcome}
use Rattle.log_model.specs.declared.outcome.Outcome.TheVariants as outcomes
use Rattle.log_model.specs.declared.row_kind.LogRow.{LogRow}
use Rattle.log_model.specs.declared.row_kind.Actor.TheVariants as actors
use Rattle.log_model.specs.declared.row_kind.RowKind.TheVariants as rows
use Rattle.move_queue.specs.Queue.{Queue}
use Rattle.check_facts.specs.Rows.{IsNoAnswerOf}
use Rattle.checking_facts.specs.Checks.{IsPlainReport}
use Rattle.row_facts.proofs.Left.Rows.{were_shown}
use Rattle.seen_facts.proofs.Coord.Unread.{next}
use Rattle.seen_facts.specs.Transit.Orders.{IsOutcomeOf}
use Rattle.row_facts.proofs.RestRows.Rows.{delivered_rests}
use Rattle.seen_facts.proofs.Request.Readers.{SameReads}
use Rattle.seen_laws.proofs.Deliveries.{delivered_may}
use Rattle.seen_laws.specs.Blocks.{Passes, point_at}
use Rattle.seen_laws.specs.InEvent.{InEvent, start_of}
use Rattle.seen_laws.specs.Unasked.{is_question, no_answer, unasked, without_slot}
use Rattle.std.proofs.Common.{Bool, List, None, Option, Some, [], ap, arith, cond, false, inl, inr, length, map, refl, subst, sym, true, ◌&&◌, ◌==◌, ◌∙◌, ◌≡◌, ◌≤◌, ◌⊎◌}
use Rattle.std.proofs.lemmas.List.{map-id}
use Rattle.std.specs.Map.{lookup}
use Rattle.std.specs.Prelude.{find, slice_get}
use Rattle.tab_acts.proofs.Checks.{IsBeside, still_unsettled, told_beside}
use Rattle.tab_acts.proofs.Events.{alone_acts, now_then, own_row, seen_room}
use Rattle.tab_acts.proofs.Left.{StaysTold, changes_kept, left_stands}
use Rattle.tab_acts.proofs.Orders.{theirs_same}
use Rattle.tab_doors.specs.Look.{sight}
use Rattle.tab_doors.specs.declared.tables.Tables.{Tables}
use Rattle.seen_facts.proofs.Desk.Stays.{NoDeath}
use Rattle.tab_facts.proofs.Order.Rows.{orders_after}
use Rattle.tab_facts.proofs.TabEvents.Left.{IsLeftBut, between_but, keeps_all}
use Rattle.tab_facts.proofs.TabEvents.Requests.{lean, same_left}
use Rattle.tab_facts.proofs.TabWhole.Delivering.{done_flows, fine}
use Rattle.tab_facts.proofs.Last.Rows.{delivered_lasting}
use Rattle.tab_facts.specs.TabEvents.Between.{AreSwept, IsBetweenChecks}
use Rattle.tab_facts.specs.TabGoing.Going.{count_of, has_ended}
use Rattle.seen_facts.specs.Coord.Leading.{held_back}
use Rattle.seen_facts.specs.Rest.Between.{IsOfLoad}
use Rattle.tab_ids.specs.declared.DocId.{DocId}
use Rattle.tab_ids.specs.declared.ProcId.{ProcId}
use Rattle.tab_ids.specs.declared.ReqId.{ReqId}
use Rattle.tab_ids.specs.declared.StateId.{StateId}
use Rattle.tab_stands.proofs.Coming.{bare}
use Rattle.tab_stands.proofs.Dones.{did, did_joined, did_outcome, did_parked, did_requests, did_tab, did_takes, documents_same, places_same, quiet_asks}
use Rattle.tab_stands.proofs.EpochRows.{delivered_under}
use Rattle.tab_stands.proofs.PassedOn.{of_load, row_checks, row_duly, unstood_by}
use Rattle.tab_stands.proofs.Reports.{told_kept}
use Rattle.tab_stands.specs.Delivering.{IsSeenDelivery, IsQuietTask}
use Rattle.tab_stands.specs.PassedOn.{IsStray}
use Rattle.tab_stands.specs.Checked.{ChecksStand}
use Rattle.tab_stands.specs.Standing.{HasActed, HasRoomFor, InCheck, IsOwnRead, LastsInLog, StandsFor, seen_start}
use Rattle.unasked.proofs.Deliveries.{delivered_seen}

-- a report that is as this one but for a handler tells no answer where this one tells none
told_plain : (real : Report) (job : Job) (outcome : Outcome) (made : Option Made) → no_answer real ≡ Some (reports.Done job outcome made) → IsNoAnswerOf outcome → IsPlainReport (Some real)
told_plain (reports.Made m) job outcome made is answers = tt
told_plain (reports.Died death) job outcome made never answers = absurd cc
told_plain (reports.Done j o m) job outcome made is answers = by_test (is_question j.task) is
  where
    unslotted : (k : Outcome) → IsNoAnswerOf (without_slot k) → IsNoAnswerOf k
    unslotted (outcomes.Populated slot) its = tt
    unslotted outcomes.Activated its = tt
    unslotted outcomes.Updated its = tt
    unslotted outcomes.Frozen its = tt
    unslotted outcomes.Discarded its = tt
    unslotted outcomes.Fragmented its = tt
    unslotted (outcomes.Asked verdict) never = absurd never

    by_test : (b : Bool) → (let r : Option Report = cond b None (Some (reports.Done j (without_slot o) m)) in r) ≡ Some (reports.Done job outcome made) → IsNoAnswerOf o
    by_test true never = absurd cc
    by_test false told_is =
        let same : outcome ≡ without_slot o = cc in
        unslotted o (subst (λ (k : Outcome). IsNoAnswerOf k) same answers)

pub alive_plain : (report : Option Report) → IsPlainReport report → NoDeath report
alive_plain None plain = tt
alive_plain (Some (reports.Made made)) plain = tt
alive_plain (Some (reports.Died death)) never = absurd never
alive_plain (Some (reports.Done job outcome made)) plain = tt

module _ (e : InEvent) (proc : ProcId) (job : Job) (outcome : Outcome) (del : IsSeenDelivery e proc (reports.Done job outcome None)) (t : Tables) (queue : Queue) (blame : List (StateId × ReqId)) {check : InCheck} (stands : StandsFor check (seen_start e) t queue blame) (lasts : LastsInLog e.checking t.asking e.start) (asks : ChecksStand e.checking e.start t.checks) (room : HasRoomFor e.start) (uncut : e.before ≡ []) (quiet : IsQuietTask job.task) (clear : blame ≡ []) where
  -- the own row is read off where nobody is asked
  read : unasked e.checking (next e.start e.event actors.Coord (rows.Delivered proc)) ≡ next (seen_start e) e.event actors.Coord (rows.Delivered proc)
  read =
      delivered_seen e.checking e.start e.event actors.Coord proc del.real (reports.Done job outcome None) del.real_first del.quiet del.unheld

  aside : IsOwnRead e
  aside =
      now_then e actors.Coord (rows.Delivered proc) del.by_coord del.own uncut (rows.Delivered proc) read
      ∙ ap (λ (r : LogRow). after (seen_start e) r) (sym (own_row e actors.Coord (rows.Delivered proc) del.by_coord del.own))

  abbrev s : Seen
  s = seen_start e

  abbrev n : Seen
  n = did e proc job outcome del t queue blame stands aside

  docs : n.documents ≡ s.documents
  docs = documents_same e proc job outcome del t queue blame stands aside quiet

  places : n.places ≡ s.places
  places = places_same e proc job outcome del t queue blame stands aside quiet

  asked : n.requests ≡ s.requests
  asked = did_requests e proc job outcome del t queue blame stands aside (quiet_asks e proc job outcome del t queue blame stands aside quiet)

  alive : NoDeath (slice_get (desk_of s proc).reports 0)
  alive = fine t.running s e.event proc stands.between.tab stands.between.flows (reports.Done job outcome None) del.first

  -- what it leaves
  left : IsLeftBut t.running s n
  left =
      record {
        g = λ x. x;
        keeps = keeps_all;
        documents = docs ∙ sym (map-id s.documents);
        asked = same_left t.running s.requests n.requests (subst (λ (l : List Asked). SameReads lean s.requests l) (sym asked) (λ r. refl));
        history = refl;
        places = places;
        kept = told_kept e proc del.by_coord del.own t queue blame stands aside (reports.Done job outcome None) del.first;
        joined = did_joined e proc job outcome del t queue blame stands aside;
        parked = did_parked e proc job outcome del t queue blame stands aside;
      }

  told : StaysTold s n
  told =
      record {
        sights = ap (λ (l : List Document). map sight l) docs;
        ways = subst (λ (l : List Asked). SameReads bare s.requests l) (sym asked) (λ r. refl);
        changes = changes_kept s.requests n.requests (subst (λ (l : List Asked). SameReads (λ (q : Asked). q.change) s.requests l) (sym asked) (λ r. refl));
        held = ap (λ (l : List Asked). held_back l s.parked) asked;
        jobs = refl;
        states = refl;
        entries = refl;
        initial = refl;
        ended = subst (λ (l : List Asked). count_of has_ended s.requests ≤ count_of has_ended l) (sym asked) (omega arith);
        long = ap (λ (l : List Asked). length l) asked;
        step = refl;
        unstood = λ off away. unstood_by s (record { event = e.event; actor = actors.Coord; row = rows.Delivered proc }) refl away off;
      }

  -- no document is left to be discarded
  none_stray : (doc : DocId) (state : StateId) → IsStray n doc state → ⊥
  none_stray doc state stray =
      let before = stands.strays doc state (record { document = stray.document; found = ap (λ (l : List Document). find (λ (x : Document). x.nr.0 == doc.0) l) (sym docs) ∙ stray.found; its_state = stray.its_state; ready = stray.ready; undiscarded = stray.undiscarded; bare = stray.bare; unloaded = ap (λ (l : List Asked). find (λ (q : Asked). is_ongoing_load q && holds (λ (own : StateId). own.0 == state.0) q.state) l) (sym asked) ∙ stray.unloaded }) in
      let never : None ≡ Some before.req = ap (λ (l : List (StateId × ReqId)). lookup (λ (other : StateId). state.0 == other.0) l) (sym clear) ∙ before.noted in
      absurd cc

  swept : AreSwept n
  swept doc d found ready undiscarded = by_row (has_state d.state n.history.rows) refl
    where
      by_load : has_state d.state n.history.rows ≡ false → (o : Option Asked) → ongoing_load n d.state ≡ o → (has_state d.state n.history.rows ≡ true) ⊎ IsOfLoad n d
      by_load bare_ (Some q) is = inr (of_load n d q is)
      by_load bare_ None is =
          absurd (none_stray doc d.state (record { document = d; found = found; its_state = refl; ready = ready; undiscarded = undiscarded; bare = bare_; unloaded = is }))

      by_row : (b : Bool) → has_state d.state n.history.rows ≡ b → (has_state d.state n.history.rows ≡ true) ⊎ IsOfLoad n d
      by_row true is = inl is
      by_row false bare_ = by_load bare_ (ongoing_load n d.state) refl

  between : IsBetweenChecks t.kept.keep t.running check.loads check.holds n
  between =
      between_but t.kept.keep t.running s n stands.between (did_tab e proc job outcome del t queue blame stands aside) left
      (done_flows t.running s e.event proc stands.between.tab stands.between.flows job outcome del.first)
      (delivered_rests s e.event actors.Coord [] stands.between.rests proc alive)
      (inl swept)

  told_stands : StandsFor check n t queue blame
  told_stands =
      left_stands s t queue blame stands (seen_room e room) n left told between
      (delivered_lasting s e.event actors.Coord stands.lasts.lasting proc alive)
      (λ F are. orders_after F s e.event actors.Coord (rows.Delivered proc) tt (λ x is. cc) are)
      (theirs_same s n asked (λ doc d found. (d, ap (λ (l : List Document). find (λ (x : Document). x.nr.0 == doc.0) l) docs ∙ found, refl)) stands.lasts.made)
      (were_shown s e.event actors.Coord stands.lasts.were (rows.Delivered proc) tt)
      (subst (λ (l : List Place). AreShownOnce l) (sym places) (once_of lasts.shows))

  -- ---- of the log itself

  -- the report tells no answer and no death
  plain : IsPlainReport (slice_get (desk_of e.start proc).reports 0)
  plain =
      subst (λ (o : Option Report). IsPlainReport o) (sym del.real_first) (told_plain del.real job outcome None del.quiet (by_task job.task outcome quiet (did_outcome e proc job outcome del t queue blame stands aside)))
    where
      by_task : (task : Task) (o : Outcome) → IsQuietTask task → IsOutcomeOf task o → IsNoAnswerOf o
      by_task (tasks.Update long at) outcomes.Updated is its = tt
      by_task tasks.Freeze outcomes.Frozen is its = tt
      by_task tasks.Discard outcomes.Discarded is its = tt
      by_task (tasks.DoFragment req mode address) outcomes.Fragmented is its = tt
      by_task (tasks.Populate nav state address initial) o never its = absurd never
      by_task (tasks.Activate entry epoch long at memo address) o never its = absurd never
      by_task (tasks.Ask slot cause) o never its = absurd never
      by_task _ _ is its = elim its [ ]

  beside : IsBeside e.start (record { event = e.event; actor = actors.Coord; row = rows.Delivered proc })
  beside = told_beside e.start e.event actors.Coord proc plain

  told_lasts : LastsInLog e.checking t.asking (next e.start e.event actors.Coord (rows.Delivered proc))
  told_lasts =
      record {
        checks = row_checks e.checking e.start (record { event = e.event; actor = actors.Coord; row = rows.Delivered proc }) tt tt lasts.checks;
        asking = row_asking e.checking e.start e.event actors.Coord t.asking lasts.asking (rows.Delivered proc) tt;
        shows = delivered_under e.start e.event actors.Coord proc (alive_plain (slice_get (desk_of e.start proc).reports 0) plain) lasts.shows;
        duly = row_duly e.start e.event actors.Coord lasts.duly (rows.Delivered proc) tt;
        known = known_on e.start (record { event = e.event; actor = actors.Coord; row = rows.Delivered proc }) tt tt tt tt lasts.known;
      }

  passes : Passes e.header (record { start = e.start; now = e.start; done = []; later = [] }) (record { event = e.event; actor = actors.Coord; row = rows.Delivered proc })
  passes =
      (delivered_may (start_of e) e.event proc del.real refl del.real_first (still_unsettled e.start (next e.start e.event actors.Coord (rows.Delivered proc)) beside.gone beside.reads asks.has.numbered) []
      (subst (λ (r : LogRow). is_delivered_duly (point_at (start_of e) []) r ≡ true) (own_row e actors.Coord (rows.Delivered proc) del.by_coord del.own) (did_takes e proc job outcome del t queue blame stands aside []))).0

  -- so the event is over
  pub told_acts : HasActed check e [] t queue blame
  told_acts =
      alone_acts e actors.Coord (rows.Delivered proc) del.by_coord del.own uncut (rows.Delivered proc) read t queue blame told_stands told_lasts beside asks passes
