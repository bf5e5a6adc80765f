-- A report tells that an order showed its document: its navigable may stand then, which is noted, and all goes on.
use Rattle.tab_facts.proofs.Calm.Sames.{sight_of}
use Rattle.seen_facts.specs.Desk.Own.{IsOrderIn}
use Rattle.seen_facts.specs.Kept.Keeping.{state_in}
use Rattle.load_doors.specs.Tied.{AreTied}
use Rattle.seen_facts.proofs.LoadTies.Rows.{TellsNone, delivered_tied}
use Rattle.log_model.specs.After.{documents_delivered}
use Rattle.log_model.specs.AfterPlaces.{on_place, place_arrived, places_delivered}
use Rattle.log_model.specs.Places.{has_arrived}
use Rattle.log_model.specs.Seen.{Document, Place, Seen, Status, asleep, awake, desk_of, document_of, lost, place_in}
use Rattle.log_model.specs.declared.job.Job.{Job}
use Rattle.log_model.specs.declared.job.Task.{Task}
use Rattle.log_model.specs.declared.made.Report.{Report}
use Rattle.log_model.specs.declared.outcome.Outcome.{Outcome}
use Rattle.log_model.specs.declared.row_kind.Actor.{Actor}
use Rattle.log_model.specs.declared.row_kind.RowKind.{RowKind}
use Rattle.move_queue.specs.Queue.{Queue}
use Rattle.seen_facts.proofs.Mover.Places.{WasThere, was_there}
use Rattle.nav_tree.specs.Tree.{node_of}
use Rattle.nav_tree.specs.declared.node.Node.{Node}
use Rattle.seen_laws.specs.InEvent.{InEvent, now_of}
use Rattle.seen_laws.specs.Sending.{leads}
use Rattle.std.proofs.Common.{Bool, List, None, Option, Some, [], ap, cond, false, length, map, refl, subst, sym, true, ◌+◌, ◌==◌, ◌||◌, ◌∙◌, ◌≡◌, ◌≤◌}
use Rattle.std.specs.List.{filter_map}
use Rattle.std.specs.Option.{IsSome, option_map_or}
use Rattle.std.specs.Prelude.{is_some, option_map, slice_get}
use Rattle.tab_doors.proofs.Arriving.{arrived_holds}
use Rattle.tab_doors.proofs.Holding.{its_node}
use Rattle.tab_doors.proofs.Sights.{sight_of as sight_at}
use Rattle.tab_doors.specs.Look.{Sight, look_of as sights_of, sight}
use Rattle.tab_doors.specs.Noting.{shown_tree}
use Rattle.tab_doors.specs.Ties.{birth_of, nav_in}
use Rattle.tab_doors.specs.Working.{IsWorker, KeepsRun}
use Rattle.tab_doors.specs.declared.birth.Birth.{Birth}
use Rattle.tab_doors.specs.declared.tables.Tables.{Tables}
use Rattle.tab_settles.proofs.PassedOn.{AreUpTo, its_report}
use Rattle.tab_ids.specs.declared.DocId.{DocId}
use Rattle.tab_ids.specs.declared.Epoch.{Epoch}
use Rattle.tab_ids.specs.declared.NavId.{NavId}
use Rattle.tab_ids.specs.declared.ProcId.{ProcId}
use Rattle.tab_ids.specs.declared.ReqId.{ReqId}
use Rattle.tab_ids.specs.declared.StateId.{StateId}
use Rattle.tab_settles.specs.PassedOn.{InPass}
use Rattle.tab_stands.proofs.Begun.{begun}
use Rattle.tab_stands.proofs.Coming.{OnlyArrives}
use Rattle.tab_stands.proofs.Dones.{AsksNone, did, did_outcome, did_parked, did_queue, did_queueing, did_requests, did_tab}
use Rattle.tab_stands.proofs.Reports.{told_comes, told_going, told_held, told_kept, told_moved, told_rests, told_tied}
use Rattle.tab_stands.specs.Delivering.{IsSeenDelivery, IsShowTask}
use Rattle.tab_stands.specs.Standing.{HasBegun, HasLogged, HasRoomFor, InCheck, IsOwnRead, StandsFor, seen_start}
use Rattle.seen_facts.specs.Transit.Orders.{IsOutcomeOf}
use Rattle.log_model.specs.declared.job.Task.TheVariants as tasks
use Rattle.log_model.specs.declared.made.Report.TheVariants as reports
use Rattle.log_model.specs.declared.outcome.Outcome.TheVariants as outcomes
use Rattle.log_model.specs.declared.row_kind.Actor.TheVariants as actors

-- ---- a place of which the report of an order is delivered

arrives_at : (nav : NavId) (job : Job) → OnlyArrives (λ (p : Place). cond (p.nav.0 == nav.0) (place_arrived job p) p)
arrives_at nav job =
    record {
      nav = λ p. elim (p.nav.0 == nav.0) as (λ b. (let x : Place = cond b (place_arrived job p) p in x).nav ≡ p.nav) [ true ↦ refl | false ↦ refl ];
      sight = λ p. elim (p.nav.0 == nav.0) as (λ b. sight_of (let x : Place = cond b (place_arrived job p) p in x) ≡ sight_of p) [ true ↦ refl | false ↦ refl ];
      last = λ p. elim (p.nav.0 == nav.0) as (λ b. (let x : Place = cond b (place_arrived job p) p in x).last ≡ p.last) [ true ↦ refl | false ↦ refl ];
      why = λ p. elim (p.nav.0 == nav.0) as (λ b. (let x : Place = cond b (place_arrived job p) p in x).why ≡ p.why) [ true ↦ refl | false ↦ refl ];
      taken = λ p. elim (p.nav.0 == nav.0) as (λ b. (let x : Place = cond b (place_arrived job p) p in x).taken_by ≡ p.taken_by) [ true ↦ refl | false ↦ refl ];
      ever = λ p. elim (p.nav.0 == nav.0) as (λ b. (let x : Place = cond b (place_arrived job p) p in x).ever_given ≡ p.ever_given) [ true ↦ refl | false ↦ refl ];
      arrived = λ p is. by_test p (p.nav.0 == nav.0) is;
    }
  where
    or_true : (a b : Bool) → a ≡ true → (a || b) ≡ true
    or_true true b is = refl
    or_true false b is = absurd cc

    by_status : (p : Place) (status : Status) → p.status ≡ status → has_arrived (record p { status = status }) ≡ true → has_arrived (record (place_arrived job p) { status = status }) ≡ true
    by_status p (awake doc) is h = or_true p.is_delivered _ h
    by_status p lost is h = refl
    by_status p asleep is h = absurd cc

    by_test : (p : Place) (b : Bool) → has_arrived p ≡ true → has_arrived (let x : Place = cond b (place_arrived job p) p in x) ≡ true
    by_test p true h = by_status p p.status refl h
    by_test p false h = h

same_epoch : (nav : NavId) (job : Job) (p : Place) → (let x : Place = cond (p.nav.0 == nav.0) (place_arrived job p) p in x).epoch ≡ p.epoch
same_epoch nav job p =
    elim (p.nav.0 == nav.0) as (λ b. (let x : Place = cond b (place_arrived job p) p in x).epoch ≡ p.epoch) [ true ↦ refl | false ↦ refl ]

module _ (e : InEvent) (proc : ProcId) (job : Job) (outcome : Outcome) (del : IsSeenDelivery e proc (reports.Done job outcome None)) (t : Tables) (queue : Queue) (blame : List (StateId × ReqId)) {check : InCheck} (stands : StandsFor check (seen_start e) t queue blame) (aside : IsOwnRead e) where
  abbrev report : Report
  report = reports.Done job outcome None

  abbrev s : Seen
  s = seen_start e

  abbrev n : Seen
  n = did e proc job outcome del t queue blame stands aside

  its_order : IsOrderIn s.documents s.places proc job
  its_order = (its_report t.running s e.event proc stands.between.tab stands.between.flows report del.first).0

  abbrev d : Document
  d = its_order.lives.d

  -- its document's navigable is there
  pub nav_there : (nav : NavId) → nav_in t.whose.entries job.doc ≡ Some nav → IsSome (node_of nav t.tree)
  nav_there nav noted =
      let node = its_node (sights_of s t.running) t.tree d.nav its_order.place stands.tied.holds.navs its_order.placed in
      let at : nav_in t.whose.entries job.doc ≡ Some d.nav = ap (λ (o : Option Birth). option_map (λ (b : Birth). b.nav) o) (stands.tied.holds.whose job.doc ∙ ap (λ (o : Option Sight). option_map birth_of o) (sight_at s job.doc d its_order.lives.found)) in
      let both : Some d.nav ≡ Some nav = sym at ∙ noted in
      let same : d.nav ≡ nav = cc in
      subst (λ (x : NavId). IsSome (node_of x t.tree)) same (ap (λ (o : Option Node). is_some o) node.there)

  module _ (shows : IsShowTask job.task) where
    asks : AsksNone job.task
    asks = by_task job.task shows
      where
        by_task : (task : Task) → IsShowTask task → AsksNone task
        by_task (tasks.Activate entry epoch long at memo address) is = tt
        by_task (tasks.Update long at) never = absurd never
        by_task tasks.Freeze never = absurd never
        by_task tasks.Discard never = absurd never
        by_task (tasks.DoFragment req mode address) never = absurd never
        by_task (tasks.Populate nav state address initial) never = absurd never
        by_task (tasks.Ask slot cause) never = absurd never

    abbrev same : n.requests ≡ (seen_start e).requests
    same = did_requests e proc job outcome del t queue blame stands aside asks

    its_outcome : outcome ≡ outcomes.Activated
    its_outcome = by_task job.task outcome shows (did_outcome e proc job outcome del t queue blame stands aside)
      where
        by_task : (task : Task) (o : Outcome) → IsShowTask task → IsOutcomeOf task o → o ≡ outcomes.Activated
        by_task (tasks.Activate entry epoch long at memo address) outcomes.Activated is its = refl
        by_task (tasks.Update long at) o never its = absurd never
        by_task tasks.Freeze o never its = absurd never
        by_task tasks.Discard o never its = absurd never
        by_task (tasks.DoFragment req mode address) o never its = absurd never
        by_task (tasks.Populate nav state address initial) o never its = absurd never
        by_task (tasks.Ask slot cause) o never its = absurd never
        by_task _ _ is its = elim its [ ]

    documents_same : n.documents ≡ s.documents
    documents_same =
        ap (λ (o : Option Report). documents_delivered s.documents o) del.first
        ∙ ap (λ (o : Outcome). documents_delivered s.documents (Some (reports.Done job o None))) its_outcome

    abbrev g : Place → Place
    g p = cond (p.nav.0 == d.nav.0) (place_arrived job p) p

    places_are : n.places ≡ map g s.places
    places_are =
        ap (λ (o : Option Report). places_delivered s o) del.first
        ∙ by_task job.task refl shows
        ∙ ap (λ (o : Option Document). option_map_or (λ (x : Document). on_place x.nav (place_arrived job) s.places) o s.places) its_order.lives.found
      where
        by_task : (task : Task) → job.task ≡ task → IsShowTask task → places_delivered s (Some (reports.Done job outcome None)) ≡ option_map_or (λ (x : Document). on_place x.nav (place_arrived job) s.places) (document_of s job.doc) s.places
        by_task (tasks.Activate entry epoch long at memo address) is shows_ = rw is refl
        by_task (tasks.Update long at) is never = absurd never
        by_task tasks.Freeze is never = absurd never
        by_task tasks.Discard is never = absurd never
        by_task (tasks.DoFragment req mode address) is never = absurd never
        by_task (tasks.Populate nav state address initial) is never = absurd never
        by_task (tasks.Ask slot cause) is never = absurd never

    epochs_then : AreUpTo (s.jobs + 1) n.places
    epochs_then nav place there =
        let w : WasThere g s.places nav place = was_there g s.places (arrives_at d.nav job).nav nav place (ap (λ (l : List Place). place_in l nav) (sym places_are) ∙ there) in
        subst (λ (x : Epoch). x.0 ≤ s.jobs + 1) (sym (same_epoch d.nav job w.before) ∙ ap (λ (p : Place). p.epoch) w.is) (stands.lasts.counted.epochs nav w.before w.found)

    tells_none : TellsNone (slice_get (desk_of s proc).reports 0)
    tells_none =
        subst (λ (o : Option Report). TellsNone o) (sym del.first) (subst (λ (o : Outcome). TellsNone (Some (reports.Done job o None))) (sym its_outcome) tt)

    -- the tables in which that is noted
    abbrev noted : Tables
    noted = record t { tree = shown_tree t job.doc job.nr }

    kept_run : KeepsRun t noted
    kept_run = record { running = refl; goal = refl; keep = refl; checks = refl }

    tied : AreTied (now_of e []) noted
    tied =
        told_tied e proc del.by_coord del.own t queue blame stands aside report del.first same noted kept_run
        (arrived_holds (sights_of s t.running) (sights_of n t.running) t job.doc job.nr (sight d) stands.tied.holds (sight_at s job.doc d its_order.lives.found) (ap (λ (l : List Document). map sight l) documents_same) places_are refl (told_moved e proc del.by_coord del.own t queue blame stands aside report del.first same) refl refl refl)
        (delivered_tied s e.event actors.Coord t.loads stands.tied.loads proc tells_none) refl
        (stands.tied.kept ∙ ap (λ (l : List Document). filter_map (state_in l) s.kept) (sym documents_same) ∙ ap (λ (l : List DocId). filter_map (state_in n.documents) l) (sym (told_kept e proc del.by_coord del.own t queue blame stands aside report del.first)))
        (subst (λ (l : List Document). length l ≤ s.jobs + 1) (sym documents_same) stands.tied.few)

    abbrev p : InPass
    p = record { event = e; loads = check.loads; hand = [] }

    begun_noted : HasLogged e t.checks t.asking → HasRoomFor (seen_start e) → t.kept.keep ≡ e.header.keep → HasBegun (record { event = e; loads = check.loads; hand = [] }) noted queue blame
    begun_noted logged room header =
        begun p noted queue blame stands.between stands.lasts stands.tied.goal header logged (ap (λ (k : RowKind). leads k) del.own) (subst (λ (a : Actor). IsWorker a) (sym del.by_coord) tt)
        tied
        (told_going e proc del.by_coord del.own t queue blame stands aside report del.first same room check.loads [] (did_tab e proc job outcome del t queue blame stands aside) (told_held e proc del.by_coord del.own t queue blame stands aside report del.first same (did_parked e proc job outcome del t queue blame stands aside)) epochs_then)
        (told_rests e proc del.by_coord del.own t queue blame stands aside report del.first)
        (told_comes e proc del.by_coord del.own t queue blame stands aside report del.first same g (arrives_at d.nav job) places_are documents_same)
        (did_queueing e proc job outcome del t queue blame stands aside asks noted kept_run logged.logged.uncut queue (did_queue e proc job outcome del t queue blame stands aside asks documents_same) refl)

    pub shown_begun : HasLogged e t.checks t.asking → HasRoomFor (seen_start e) → t.kept.keep ≡ e.header.keep → (u : Tables) → u ≡ record t { tree = shown_tree t job.doc job.nr } → HasBegun (record { event = e; loads = check.loads; hand = [] }) u queue blame
    shown_begun logged room header u is =
        subst (λ (x : Tables). HasBegun (record { event = e; loads = check.loads; hand = [] }) x queue blame) (sym is) (begun_noted logged room header)
