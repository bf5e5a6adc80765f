-- A document that was made is noted in the tables: the coordinator is at work, and passes may follow, whatever the document is needed for.
use Rattle.unload_check.specs.Checks.{OpenCheck}
use Rattle.seen_facts.specs.Kept.Keeping.{state_in}
use Rattle.load_doors.specs.Tied.{AreTied}
use Rattle.load_table.specs.Loads.{HasOneEach, is_populating, ongoing_load}
use Rattle.load_table.specs.declared.load.Load.{Load}
use Rattle.seen_facts.proofs.LoadTies.Waits.{waits_once}
use Rattle.seen_facts.specs.LoadTies.Tying.{TiesLoads}
use Rattle.log_model.specs.Seen.{Document, Seen}
use Rattle.log_model.specs.declared.job.Job.{Job}
use Rattle.log_model.specs.declared.made.Report.{Report}
use Rattle.log_model.specs.declared.outcome.Outcome.{Outcome}
use Rattle.log_model.specs.declared.row_kind.Actor.{Actor}
use Rattle.log_model.specs.declared.row_kind.RowKind.{RowKind}
use Rattle.move_queue.specs.Queue.{Queue}
use Rattle.row_facts.proofs.Owed.Ends.{loose_first, loose_owed}
use Rattle.page_cache.specs.Kept.{Kept}
use Rattle.seen_laws.specs.InEvent.{InEvent, now_of}
use Rattle.seen_laws.specs.Sending.{leads}
use Rattle.std.proofs.Common.{Bool, List, None, Option, Some, [], ap, length, map, refl, subst, sym, true, ℕ, ◌+◌, ◌∙◌, ◌≡◌, ◌≤◌}
use Rattle.std.proofs.lemmas.List.{length-map}
use Rattle.std.specs.List.{filter_map}
use Rattle.std.specs.Prelude.{find}
use Rattle.tab_doors.proofs.Making.{made_ready, placed_holds}
use Rattle.tab_doors.proofs.Noted.{noted_loads}
use Rattle.tab_doors.proofs.Sights.{sights_document}
use Rattle.tab_doors.specs.Look.{look_of as sights_of, sight}
use Rattle.tab_doors.specs.Noting.{PlacesOne}
use Rattle.tab_doors.specs.Ties.{Holds}
use Rattle.tab_doors.specs.Working.{IsWorker, KeepsRun}
use Rattle.tab_doors.specs.declared.tables.Tables.{Tables}
use Rattle.tab_ids.specs.declared.DocId.{DocId}
use Rattle.tab_ids.specs.declared.NavId.{NavId}
use Rattle.tab_ids.specs.declared.ProcId.{ProcId}
use Rattle.tab_ids.specs.declared.ReqId.{ReqId}
use Rattle.tab_ids.specs.declared.StateId.{StateId}
use Rattle.tab_stands.proofs.Begun.{work_first}
use Rattle.tab_stands.proofs.Dones.{did, did_now, did_parked, did_requests, did_tab}
use Rattle.tab_stands.proofs.Placed.{documents_are, made_asks, states_alike, states_kept}
use Rattle.tab_stands.proofs.Reports.{told_going, told_held, told_kept, told_moved, told_rests, told_tied}
use Rattle.tab_stands.proofs.Unmade.{being, d, documents_now, its_own, its_outcome, made_at, made_of, places_now, seen_found, undiscarded, unknown, unplaced}
use Rattle.tab_stands.specs.Delivering.{IsSeenDelivery}
use Rattle.tab_stands.specs.PassedOn.{IsGoing, IsPassing}
use Rattle.tab_stands.specs.Standing.{HasLogged, HasRoomFor, InCheck, IsOwnRead, StandsFor, seen_start}
use Rattle.log_model.specs.declared.job.Task.TheVariants as tasks
use Rattle.log_model.specs.declared.made.Report.TheVariants as reports
use Rattle.log_model.specs.declared.row_kind.Actor.TheVariants as actors

module _ (e : InEvent) (proc : ProcId) (job : Job) (outcome : Outcome) (del : IsSeenDelivery e proc (reports.Done job outcome None)) (t : Tables) (queue : Queue) (blame : List (StateId × ReqId)) {check : InCheck} (stands : StandsFor check (seen_start e) t queue blame) (aside : IsOwnRead e) (nav : NavId) (state : StateId) (address : List ℕ) (initial : Bool) (task : job.task ≡ tasks.Populate nav state address initial) (one_each : HasOneEach t.loads) where
  abbrev report : Report
  report = reports.Done job outcome None

  abbrev s : Seen
  s = seen_start e

  abbrev n : Seen
  n = did e proc job outcome del t queue blame stands aside

  abbrev own : Document
  own = d e proc job outcome del t queue blame stands aside nav state address initial task

  abbrev same : n.requests ≡ (seen_start e).requests
  same = did_requests e proc job outcome del t queue blame stands aside (made_asks e proc job outcome del t queue blame stands aside nav state address initial task)

  -- the load that waits for the document is the only one
  once : (nav_ : NavId) (a : Load) → ongoing_load nav_ t.loads ≡ Some a → is_populating job.doc a ≡ true → find (is_populating job.doc) t.loads ≡ Some a
  once nav_ a at waits =
      waits_once s t.loads stands.between.tab.loading stands.tied.loads one_each stands.between.tab.whose.numbered job.doc nav_ a at waits

  module _ (u : Tables) (one : PlacesOne state job.doc t u) (kept : KeepsRun t u) where
    holds_then : Holds (sights_of n t.running) u
    holds_then =
        placed_holds (sights_of s t.running) (sights_of n t.running) t job.doc state (sight own) stands.tied.holds
        (ap (λ (l : List Document). map sight l) (documents_now e proc job outcome del t queue blame stands aside nav state address initial task) ∙ sights_document job.doc made_of made_ready (λ x. refl) s.documents)
        (places_now e proc job outcome del t queue blame stands aside nav state address initial task) refl (told_moved e proc del.by_coord del.own t queue blame stands aside report del.first same) refl refl refl
        (seen_found e proc job outcome del t queue blame stands aside nav state address initial task)
        (its_own e proc job outcome del t queue blame stands aside nav state address initial task)
        (undiscarded e proc job outcome del t queue blame stands aside nav state address initial task)
        (unknown e proc job outcome del t queue blame stands aside nav state address initial task)
        (being e proc job outcome del t queue blame stands aside nav state address initial task)
        (unplaced e proc job outcome del t queue blame stands aside nav state address initial task) u one

    loads_then : TiesLoads n u.loads
    loads_then =
        let slot = its_outcome e proc job outcome del t queue blame stands aside nav state address initial task in
        noted_loads s e.event actors.Coord proc job slot.0 (del.first ∙ ap (λ (o : Outcome). let r : Option Report = Some (reports.Done job o None) in r) slot.1) state t u once one stands.tied.loads

    noted_tied : AreTied (now_of e []) u
    noted_tied =
        told_tied e proc del.by_coord del.own t queue blame stands aside report del.first same u kept holds_then loads_then one.initial
        (ap (λ (k : Kept). k.states) one.kept ∙ stands.tied.kept ∙ sym (states_alike s.documents n.documents (states_kept e proc job outcome del t queue blame stands aside nav state address initial task) s.kept) ∙ ap (λ (l : List DocId). filter_map (state_in n.documents) l) (sym (told_kept e proc del.by_coord del.own t queue blame stands aside report del.first)))
        (subst (λ (i : ℕ). i ≤ s.jobs + 1) (sym (ap (λ (l : List Document). length l) (documents_are e proc job outcome del t queue blame stands aside nav state address initial task) ∙ length-map s.documents (λ (x : Document). made_at job.doc x))) stands.tied.few)

    own_leads : leads e.own ≡ true
    own_leads = ap (λ (k : RowKind). leads k) del.own

    few : length (now_of e []).kept ≤ u.kept.keep
    few =
        subst (λ (x : Seen). length x.kept ≤ u.kept.keep) (sym (did_now e proc job outcome del t queue blame stands aside))
        (subst (λ (l : List DocId). length l ≤ u.kept.keep) (sym (told_kept e proc del.by_coord del.own t queue blame stands aside report del.first)) (subst (λ (k : ℕ). length s.kept ≤ k) (sym kept.keep) stands.between.few))

    pub noted_passing : HasLogged e t.checks t.asking → HasRoomFor (seen_start e) → IsPassing (record { event = e; loads = check.loads; hand = [] }) [] u
    noted_passing logged room =
        record {
          work = work_first e u (subst (λ (es : List (ReqId × OpenCheck)). HasLogged e es u.asking) (sym kept.checks) (subst (λ (l : List Load). HasLogged e t.checks l) (sym one.asking) logged)) own_leads (subst (λ (a : Actor). IsWorker a) (sym del.by_coord) tt) noted_tied;
          going = subst (λ (r : Option ReqId). IsGoing r check.loads [] (now_of e [])) (sym kept.running) (told_going e proc del.by_coord del.own t queue blame stands aside report del.first same room check.loads [] (did_tab e proc job outcome del t queue blame stands aside) (told_held e proc del.by_coord del.own t queue blame stands aside report del.first same (did_parked e proc job outcome del t queue blame stands aside)) (rw (places_now e proc job outcome del t queue blame stands aside nav state address initial task) stands.lasts.counted.epochs));
          owed = loose_owed e [] (loose_first e logged.logged.undue);
          loose = λ all. loose_first e logged.logged.undue;
          rests = told_rests e proc del.by_coord del.own t queue blame stands aside report del.first;
          duly = logged.lasts.duly;
          few = few;
        }
