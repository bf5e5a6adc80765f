-- A report tells that an order was done of which nothing was made: what the event's own row leaves; and all goes on where the order neither makes nor shows a document.
use Rattle.load_doors.proofs.Starts.{made_real, requests_start}
use Rattle.tab_stands.proofs.Applied.{none_applied}
use Rattle.tab_doors.proofs.Uncut.{uncut_held}
use Rattle.seen_facts.specs.Coord.Leading.{held_back}
use Rattle.row_facts.specs.FrameRows.Lawful.{held_at_first}
use Rattle.seen_facts.specs.Kept.Keeping.{state_in}
use Rattle.load_doors.specs.Tied.{AreTied}
use Rattle.seen_facts.proofs.LoadTies.Rows.{TellsNone, delivered_tied}
use Rattle.log_model.specs.ActsAtOnce.{is_ready_load}
use Rattle.log_model.specs.After.{documents_delivered}
use Rattle.log_model.specs.AfterPlaces.{places_delivered}
use Rattle.log_model.specs.AfterRequests.{requests_delivered}
use Rattle.log_model.specs.Causes.{takes_report}
use Rattle.log_model.specs.Equal.{has_req}
use Rattle.log_model.specs.Queue.{is_delivered_duly}
use Rattle.log_model.specs.Seen.{Asked, Document, Place, Seen, desk_of, request_in}
use Rattle.log_model.specs.declared.job.Job.{Job}
use Rattle.log_model.specs.declared.job.Task.{Task}
use Rattle.log_model.specs.declared.made.Report.{Report}
use Rattle.log_model.specs.declared.outcome.Outcome.{Outcome}
use Rattle.log_model.specs.declared.row_kind.Actor.{Actor}
use Rattle.log_model.specs.declared.row_kind.LogRow.{LogRow}
use Rattle.log_model.specs.declared.row_kind.RowKind.{RowKind}
use Rattle.move_queue.specs.Queue.{Queue}
use Rattle.seen_laws.specs.Blocks.{point_at}
use Rattle.seen_laws.specs.InEvent.{InEvent, IsTakenIn, now_of, start_of}
use Rattle.seen_laws.specs.Sending.{leads}
use Rattle.std.proofs.Common.{List, None, Option, Some, [], ap, length, map, refl, subst, sym, true, ◌+◌, ◌∙◌, ◌≡◌, ◌≤◌}
use Rattle.std.proofs.lemmas.List.{map-id}
use Rattle.std.specs.List.{filter_map}
use Rattle.std.specs.Prelude.{option_map, slice_get}
use Rattle.tab_settles.proofs.PassedOn.{done_tab, its_report, queue_over}
use Rattle.tab_settles.specs.PassedOn.{HasQueue, InPass, IsReadyLoadOf, IsTab}
use Rattle.tab_doors.proofs.EndLaws.{left_holds}
use Rattle.tab_doors.specs.Look.{look_of as sights_of, sight}
use Rattle.tab_doors.specs.Working.{IsWorker, KeepsRun}
use Rattle.tab_doors.specs.declared.tables.Tables.{Tables}
use Rattle.tab_ids.specs.declared.DocId.{DocId}
use Rattle.tab_ids.specs.declared.NavId.{NavId}
use Rattle.tab_ids.specs.declared.ProcId.{ProcId}
use Rattle.tab_ids.specs.declared.ReqId.{ReqId}
use Rattle.tab_ids.specs.declared.StateId.{StateId}
use Rattle.tab_settles.specs.Settling.{HoldsParked, IsQueueing}
pub use Rattle.tab_settles.specs.Settling.{MayRelease}
use Rattle.tab_stands.proofs.Begun.{begun}
use Rattle.tab_stands.proofs.Coming.{OnlyArrives}
use Rattle.tab_stands.proofs.Reports.{told, told_comes, told_going, told_held, told_kept, told_moved, told_now, told_rests, told_row, told_tied, told_waiting}
use Rattle.tab_stands.specs.Delivering.{IsSeenDelivery, IsQuietTask}
use Rattle.tab_stands.specs.Standing.{HasBegun, HasLogged, HasRoomFor, InCheck, IsOwnRead, StandsFor, seen_start}
use Rattle.seen_facts.specs.Transit.Orders.{IsOutcomeOf}
use Rattle.log_model.specs.declared.job.Task.TheVariants as tasks
use Rattle.log_model.specs.declared.made.Report.TheVariants as reports
use Rattle.log_model.specs.declared.outcome.Outcome.TheVariants as outcomes
use Rattle.log_model.specs.declared.row_kind.Actor.TheVariants as actors

-- the tables as they were
pub unchanged : {t : Tables} → KeepsRun t t
unchanged = record { running = refl; goal = refl; keep = refl; checks = refl }

-- a place as it was
pub itself : OnlyArrives (λ (p : Place). p)
itself =
    record { nav = λ p. refl; sight = λ p. refl; last = λ p. refl; why = λ p. refl; taken = λ p. refl; ever = λ p. refl; arrived = λ p is. is }

-- the order asks nothing
abbrev pub AsksNone : Task → Type 0
AsksNone (tasks.Ask slot cause) = ⊥
AsksNone _ = Unit {0}

-- what is held back as the event's own row has come
pub held_first : (e : InEvent) → e.before ≡ [] → (now_of e []).parked ≡ held_at_first e
held_first e uncut = uncut_held e uncut

module _ (e : InEvent) (proc : ProcId) (job : Job) (outcome : Outcome) (del : IsSeenDelivery e proc (reports.Done job outcome None)) (t : Tables) (queue : Queue) (blame : List (StateId × ReqId)) {check : InCheck} (stands : StandsFor check (seen_start e) t queue blame) (aside : IsOwnRead e) where
  abbrev report : Report
  report = reports.Done job outcome None

  abbrev s : Seen
  s = seen_start e

  abbrev pub did : Seen
  did = told e proc del.by_coord del.own t queue blame stands aside report del.first

  pub did_now : now_of e [] ≡ did
  did_now = told_now e proc del.by_coord del.own t queue blame stands aside report del.first

  pub did_tab : IsTab t.running check.loads [] did
  did_tab = done_tab t.running s e.event proc stands.between.tab stands.between.flows job outcome del.first

  pub did_outcome : IsOutcomeOf job.task outcome
  did_outcome = (its_report t.running s e.event proc stands.between.tab stands.between.flows report del.first).1

  -- nothing that changes the history is delivered
  pub did_takes : (later : List LogRow) → IsTakenIn e later
  did_takes later =
      subst (λ (r : LogRow). is_delivered_duly (point_at (start_of e) later) r ≡ true) (sym (told_row e proc del.by_coord del.own t queue blame stands aside report del.first)) (rw (del.real_first) (rw (made_real del.real report del.quiet) refl))

  pub did_parked : did.parked ≡ (seen_start e).parked
  did_parked = rw (del.first) refl

  pub did_joined : did.joined ≡ (seen_start e).joined
  did_joined = rw (del.first) refl

  pub did_requests : AsksNone job.task → did.requests ≡ (seen_start e).requests
  did_requests asks = ap (λ (o : Option Report). requests_delivered o s.requests) del.first ∙ by_task job.task outcome asks did_outcome
    where
      by_task : (task : Task) (u : Outcome) → AsksNone task → IsOutcomeOf task u → requests_delivered (Some (reports.Done job u None)) s.requests ≡ s.requests
      by_task (tasks.Populate nav state address initial) (outcomes.Populated slot) asks_ its = refl
      by_task (tasks.Activate entry epoch long at memo address) outcomes.Activated asks_ its = refl
      by_task (tasks.Update long at) outcomes.Updated asks_ its = refl
      by_task tasks.Discard outcomes.Discarded asks_ its = refl
      by_task tasks.Freeze outcomes.Frozen asks_ its = refl
      by_task (tasks.DoFragment req mode address) outcomes.Fragmented asks_ its = refl
      by_task (tasks.Ask slot cause) u never its = absurd never
      by_task _ _ asks_ its = elim its [ ]

  -- ---- what waits, and what is held back

  module _ (asks : AsksNone job.task) where
    abbrev same : did.requests ≡ (seen_start e).requests
    same = did_requests asks

    pub did_holds_parked : HoldsParked (now_of e []) queue.parked
    did_holds_parked =
        subst (λ (x : Seen). HoldsParked x queue.parked) (sym did_now) (stands.parked ∙ ap (λ (l : List Asked). held_back l s.parked) (sym same) ∙ ap (λ (l : List ReqId). held_back did.requests l) (sym did_parked))

    pub did_release : e.before ≡ [] → MayRelease e []
    did_release uncut =
        record {
          by_coord = del.by_coord;
          takes = ap takes_report del.own;
          many = ap (λ (x : Seen). length x.requests) did_now ∙ ap (λ (l : List Asked). length l) same ∙ requests_start e;
          old = λ req has. (
            ap (λ (l : List ReqId). has_req l req) (sym (held_first e uncut)) ∙ has,
            ap (λ (l : List ReqId). has_req l req) (sym did_parked) ∙ (ap (λ (x : Seen). has_req x.parked req) (sym did_now) ∙ has),
          );
        }

    -- where documents are as they were, each ready load was so
    pub did_queue : did.documents ≡ (seen_start e).documents → HasQueue did t.running queue.waiting
    did_queue documents =
        queue_over s did (record { joined = did_joined; whats = λ req. ap (λ (l : List Asked). option_map (λ (q : Asked). q.what) (request_in l req)) same; ready = λ req nav it. was it }) t.running queue.waiting stands.queue
      where
        was : {req : ReqId} {nav : NavId} → IsReadyLoadOf did req nav → IsReadyLoadOf s req nav
        was {req} {nav} it =
            record {
              q = it.q;
              at = ap (λ (l : List Asked). request_in l req) (sym same) ∙ it.at;
              ready = ap (λ (l : List Document). let x : Seen = record s { documents = l } in is_ready_load x it.q) (sym documents) ∙ it.ready;
              its = it.its;
            }

    module _ (u : Tables) (kept : KeepsRun t u) where
      pub did_queueing : e.before ≡ [] → (left : Queue) → HasQueue did t.running left.waiting → left.parked ≡ queue.parked → IsQueueing (record { event = e; loads = check.loads; hand = [] }) [] u left
      did_queueing uncut left queued parked =
          record {
            waits = told_waiting e proc del.by_coord del.own t queue blame stands aside report del.first same did_tab.known uncut;
            queued = subst (λ (r : Option ReqId). HasQueue (now_of e []) r left.waiting) (sym kept.running) (subst (λ (x : Seen). HasQueue x t.running left.waiting) (sym did_now) queued);
            parked = parked ∙ did_holds_parked;
            held = λ idle. subst (λ (x : Seen). x.parked ≡ []) (sym did_now) (did_parked ∙ stands.between.held (sym kept.running ∙ idle));
            over = λ has. absurd (none_applied e uncut has);
            releasing = λ some all. did_release uncut;
          }

  -- ---- it neither makes nor shows a document

  module _ (quiet : IsQuietTask job.task) where
    pub quiet_asks : AsksNone job.task
    quiet_asks = by_task job.task quiet
      where
        by_task : (task : Task) → IsQuietTask task → AsksNone task
        by_task (tasks.Update long at) is = tt
        by_task tasks.Freeze is = tt
        by_task tasks.Discard is = tt
        by_task (tasks.DoFragment req mode address) is = tt
        by_task (tasks.Populate nav state address initial) never = absurd never
        by_task (tasks.Activate entry epoch long at memo address) never = absurd never
        by_task (tasks.Ask slot cause) never = absurd never

    pub documents_same : did.documents ≡ s.documents
    documents_same =
        ap (λ (o : Option Report). documents_delivered s.documents o) del.first ∙ by_task job.task outcome quiet did_outcome
      where
        by_task : (task : Task) (u : Outcome) → IsQuietTask task → IsOutcomeOf task u → documents_delivered s.documents (Some (reports.Done job u None)) ≡ s.documents
        by_task (tasks.Update long at) outcomes.Updated is its = refl
        by_task tasks.Freeze outcomes.Frozen is its = refl
        by_task tasks.Discard outcomes.Discarded is its = refl
        by_task (tasks.DoFragment req mode address) outcomes.Fragmented is its = refl
        by_task (tasks.Populate nav state address initial) u never its = absurd never
        by_task (tasks.Activate entry epoch long at memo address) u never its = absurd never
        by_task (tasks.Ask slot cause) u never its = absurd never
        by_task _ _ is its = elim its [ ]

    pub places_same : did.places ≡ s.places
    places_same = ap (λ (o : Option Report). places_delivered s o) del.first ∙ by_task job.task refl quiet
      where
        by_task : (task : Task) → job.task ≡ task → IsQuietTask task → places_delivered s (Some (reports.Done job outcome None)) ≡ s.places
        by_task (tasks.Update long at) is quiet_ = rw is refl
        by_task tasks.Freeze is quiet_ = rw is refl
        by_task tasks.Discard is quiet_ = rw is refl
        by_task (tasks.DoFragment req mode address) is quiet_ = rw is refl
        by_task (tasks.Populate nav state address initial) is never = absurd never
        by_task (tasks.Activate entry epoch long at memo address) is never = absurd never
        by_task (tasks.Ask slot cause) is never = absurd never

    tells_none : TellsNone (slice_get (desk_of s proc).reports 0)
    tells_none = subst (λ (o : Option Report). TellsNone o) (sym del.first) (by_task job.task outcome quiet did_outcome)
      where
        by_task : (task : Task) (u : Outcome) → IsQuietTask task → IsOutcomeOf task u → TellsNone (Some (reports.Done job u None))
        by_task (tasks.Update long at) outcomes.Updated is its = tt
        by_task tasks.Freeze outcomes.Frozen is its = tt
        by_task tasks.Discard outcomes.Discarded is its = tt
        by_task (tasks.DoFragment req mode address) outcomes.Fragmented is its = tt
        by_task (tasks.Populate nav state address initial) u never its = absurd never
        by_task (tasks.Activate entry epoch long at memo address) u never its = absurd never
        by_task (tasks.Ask slot cause) u never its = absurd never
        by_task _ _ is its = elim its [ ]

    tied : AreTied (now_of e []) t
    tied =
        told_tied e proc del.by_coord del.own t queue blame stands aside report del.first (did_requests quiet_asks) t unchanged
        (left_holds (sights_of s t.running) (sights_of did t.running) t (ap (λ (l : List Document). map sight l) documents_same) places_same refl (told_moved e proc del.by_coord del.own t queue blame stands aside report del.first (did_requests quiet_asks)) refl refl refl stands.tied.holds)
        (delivered_tied s e.event actors.Coord t.loads stands.tied.loads proc tells_none) refl
        (stands.tied.kept ∙ ap (λ (l : List Document). filter_map (state_in l) s.kept) (sym documents_same) ∙ ap (λ (l : List DocId). filter_map (state_in did.documents) l) (sym (told_kept e proc del.by_coord del.own t queue blame stands aside report del.first)))
        (subst (λ (l : List Document). length l ≤ s.jobs + 1) (sym documents_same) stands.tied.few)

    abbrev p : InPass
    p = record { event = e; loads = check.loads; hand = [] }

    pub quiet_begun : HasLogged e t.checks t.asking → HasRoomFor (seen_start e) → t.kept.keep ≡ e.header.keep → HasBegun (record { event = e; loads = check.loads; hand = [] }) t queue blame
    quiet_begun logged room header =
        begun p t queue blame stands.between stands.lasts stands.tied.goal header logged (ap (λ (k : RowKind). leads k) del.own) (subst (λ (a : Actor). IsWorker a) (sym del.by_coord) tt)
        tied
        (told_going e proc del.by_coord del.own t queue blame stands aside report del.first (did_requests quiet_asks) room check.loads [] did_tab (told_held e proc del.by_coord del.own t queue blame stands aside report del.first (did_requests quiet_asks) did_parked) (rw places_same stands.lasts.counted.epochs))
        (told_rests e proc del.by_coord del.own t queue blame stands aside report del.first)
        (told_comes e proc del.by_coord del.own t queue blame stands aside report del.first (did_requests quiet_asks) (λ p. p) itself (places_same ∙ sym (map-id s.places)) documents_same)
        (did_queueing quiet_asks t unchanged logged.logged.uncut queue (did_queue quiet_asks documents_same) refl)
