-- All that holds of a tab between two events holds after a report is delivered of an order of which nothing was made; and what a report leaves of the rest, whatever it tells of.
use Rattle.tab_facts.specs.Past.Past.{ArePast}
use Rattle.tab_facts.proofs.Past.Rows.{unmade_past}
use Rattle.seen_facts.proofs.Asked.Rows.{delivered_plain}
use Rattle.seen_facts.proofs.Coord.Answered as answering
use Rattle.seen_facts.proofs.Coord.Flowings as flowing
use Rattle.seen_facts.proofs.Coord.Kept.{IsPlainOutcome}
use Rattle.seen_facts.proofs.Coord.Populated as populated
use Rattle.seen_facts.proofs.Coord.Unread.{next}
use Rattle.seen_facts.specs.Coord.Flowing.{Flows}
use Rattle.seen_facts.specs.Coord.Leading.{held_back}
use Rattle.seen_facts.proofs.Desk.Rows.{delivered_desks}
use Rattle.seen_facts.proofs.Desk.Stays.{NoDeath}
use Rattle.seen_facts.specs.Desk.Own.{IsOrderIn, IsReportIn}
use Rattle.seen_facts.proofs.Doc.Reports.{delivered_docs}
use Rattle.seen_facts.specs.Doc.Docs.{makes_at, makes_due, makes_it, makes_told}
use Rattle.seen_facts.proofs.Each.Eaches.{each_first}
use Rattle.seen_facts.proofs.Entry.Stays.{its_number}
use Rattle.seen_facts.proofs.Entry.Told.{told_entries}
use Rattle.seen_facts.specs.Entry.Entries.{AreEntries}
use Rattle.tab_facts.proofs.FragmentOrders.Rows.{delivered_fragments}
use Rattle.tab_facts.proofs.FrameWhole.FlowsAlike.{flows_if}
use Rattle.tab_facts.proofs.FrameWhole.Queued.{queued_after}
use Rattle.tab_facts.specs.FrameWhole.Untold.{FlowsIf}
use Rattle.seen_facts.proofs.Hang.Rows.{left_hangs}
use Rattle.seen_facts.proofs.Home.Rows.{delivered_homed}
use Rattle.seen_facts.specs.Home.Homes.{IsHomed}
use Rattle.seen_facts.proofs.Kept.Rows.{delivered_kept}
use Rattle.seen_facts.proofs.Load.Rows.{delivered_loading}
use Rattle.seen_facts.proofs.LoadWhereabouts.Rows.{untold_loads}
use Rattle.seen_facts.specs.LoadWhereabouts.Whereabouts.{AreLoadsOnce}
use Rattle.log_model.proofs.Refl.{nat_eq_refl}
use Rattle.log_model.specs.Seen.{Document, Place, Seen, awake, desk_of, document_of, place_of}
use Rattle.log_model.specs.declared.job.Job.{Job}
use Rattle.log_model.specs.declared.job.Task.{Task}
use Rattle.log_model.specs.declared.made.Made.{Made}
use Rattle.log_model.specs.declared.made.Report.{Report}
use Rattle.log_model.specs.declared.outcome.Outcome.{Outcome}
use Rattle.seen_facts.proofs.Mover.Rows.{delivered_movers}
use Rattle.seen_facts.proofs.Place.Rows.{delivered_standing}
use Rattle.seen_facts.proofs.Request.Cores.{delivered_cores}
use Rattle.seen_facts.proofs.Request.KnownMoved.{untold_known}
use Rattle.seen_facts.proofs.Request.Placings.{untold_once}
use Rattle.seen_facts.specs.Request.Knowns.{AreKnown}
use Rattle.seen_facts.specs.Request.Whereabouts.{AreOnce}
use Rattle.seen_facts.proofs.Rest.Kept.{left_kept}
use Rattle.tab_facts.proofs.Shown.Rows.{delivered_shown}
use Rattle.std.proofs.Common.{Bool, List, None, Option, Some, [], ap, arith, refl, subst, sym, ℕ, ◌+◌, ◌∙◌, ◌∷◌, ◌≡◌, ◌++◌}
use Rattle.std.specs.Prelude.{drop, slice_get}
use Rattle.tab_ids.specs.declared.DocId.{DocId}
use Rattle.tab_ids.specs.declared.NavId.{NavId}
use Rattle.tab_ids.specs.declared.ProcId.{ProcId}
use Rattle.tab_ids.specs.declared.ReqId.{ReqId}
use Rattle.tab_ids.specs.declared.StateId.{StateId}
use Rattle.tab_facts.proofs.TabWhole.Working.{held_by_cores}
use Rattle.tab_facts.proofs.TabWhole.OpenAmong.{delivered_ends, once_on, trips_on}
use Rattle.tab_facts.specs.TabWhole.Tab.{IsTab, at_hand, open_among}
use Rattle.seen_facts.proofs.Transit.Delivered.{delivered_ways}
use Rattle.seen_facts.specs.Transit.Orders.{IsOutcomeOf}
use Rattle.log_model.specs.declared.job.Task.TheVariants as tasks
use Rattle.log_model.specs.declared.made.Report.TheVariants as reports
use Rattle.log_model.specs.declared.outcome.Outcome.TheVariants as outcomes
use Rattle.log_model.specs.declared.row_kind.Actor.TheVariants as actors
use Rattle.log_model.specs.declared.row_kind.RowKind.TheVariants as rows

first_of : {A : Type 0} (xs : List A) (x : A) → slice_get xs 0 ≡ Some x → xs ≡ x ∷ drop 1 xs
first_of [] x e = cc
first_of (y ∷ xs) x e = (let same : y ≡ x = cc in ap (λ z. z ∷ xs) same)

module _ (run : Option ReqId) {loads : List ReqId} (s : Seen) (event : ℕ) (proc : ProcId) (tab : IsTab run loads [] s) (flows : Flows s) where
  abbrev pub came : Seen
  came = next s event actors.Coord (rows.Delivered proc)

  -- what is left of what doesn't look at what was made
  module _ (report : Report) (first : slice_get (desk_of s proc).reports 0 ≡ Some report) where
    pub its_report : IsReportIn s.documents s.places proc report
    its_report =
        each_first (IsReportIn s.documents s.places proc) (desk_of s proc).reports report first (tab.desks proc).told

    pub fine : NoDeath (slice_get (desk_of s proc).reports 0)
    fine = by_report report first its_report
      where
        by_report : (r : Report) → slice_get (desk_of s proc).reports 0 ≡ Some r → IsReportIn s.documents s.places proc r → NoDeath (slice_get (desk_of s proc).reports 0)
        by_report (reports.Done job outcome made) at its = rw at tt
        by_report (reports.Made made) at its = rw at tt
        by_report (reports.Died death) at never = absurd never

    pub came_tab : (hand : List Made) → FlowsIf hand came → AreOnce came (at_hand (open_among s.requests loads) hand) → AreLoadsOnce came (at_hand (open_among s.requests loads) hand) → AreKnown came → AreEntries hand came → ArePast hand came → IsTab run loads hand came
    came_tab hand flows_ once trips known entries past =
        record {
          sound = tab.sound;
          hangs = left_hangs s event actors.Coord tab.hangs (rows.Delivered proc) tt;
          docs = delivered_docs s event actors.Coord tab.docs tab.desks proc fine;
          whose = left_kept s event actors.Coord tab.whose (rows.Delivered proc) tt;
          shown = delivered_shown s event actors.Coord tab.shown proc fine;
          homes = delivered_homed s event actors.Coord tab.homes proc fine;
          kept = delivered_kept s event actors.Coord tab.kept proc fine;
          standing = delivered_standing s event actors.Coord tab.standing proc fine;
          movers = delivered_movers s event actors.Coord tab.movers proc fine;
          asked = delivered_plain run s event actors.Coord tab.asked proc fine;
          queued = queued_after run s event actors.Coord tab.queued (rows.Delivered proc) tt;
          loading = delivered_loading s event actors.Coord tab.loading proc fine;
          fragments = delivered_fragments s event actors.Coord tab.fragments proc;
          once = once_on s came loads hand (delivered_ends s event actors.Coord proc) once;
          trips = trips_on s came loads hand (delivered_ends s event actors.Coord proc) trips;
          known = known;
          desks = delivered_desks s event actors.Coord tab.desks proc fine;
          ways = delivered_ways s event actors.Coord proc tab.homes tab.ways fine;
          entries = entries;
          flows = flows_;
          past = past;
        }

  -- ---- of an order of which nothing was made

  module _ (job : Job) (outcome : Outcome) (first : slice_get (desk_of s proc).reports 0 ≡ Some (reports.Done job outcome None)) where
    its_order : IsOrderIn s.documents s.places proc job
    its_order = (its_report (reports.Done job outcome None) first).0

    its_home : (d : Document) → document_of s job.doc ≡ Some d → d.proc ≡ proc
    its_home d found =
        let both : Some its_order.lives.d ≡ Some d = sym its_order.lives.found ∙ found in
        let one : its_order.lives.d ≡ d = cc in
        let number : d.proc.0 ≡ proc.0 = ap (λ (x : Document). x.proc.0) (sym one) ∙ its_order.lives.home in
        ap (λ (n : ℕ). let p : ProcId = record { 0 = n } in p) number

    parked_same : came.parked ≡ s.parked
    parked_same = rw first refl

    done_held : held_back came.requests came.parked ≡ held_back s.requests s.parked
    done_held =
        ap (λ (l : List ReqId). held_back came.requests l) parked_same
        ∙ held_by_cores s.requests came.requests s.parked (delivered_cores (slice_get (desk_of s proc).reports 0) s.requests)

    -- where it makes a document, no navigable is awake on that yet
    unused : (nav_ : NavId) (state : StateId) (address : List ℕ) (initial : Bool) → job.task ≡ tasks.Populate nav_ state address initial → (nav : NavId) (place : Place) → place_of s nav ≡ Some place → place.status ≡ awake job.doc → ⊥
    unused nav_ state address initial task nav place placed wakes =
        let h : IsHomed s.documents place job.doc = tab.homes.homed nav place job.doc placed wakes in
        let number : h.home.document.nr ≡ job.doc = ap (λ (n : ℕ). let x : DocId = record { 0 = n } in x) (its_number s.documents job.doc h.home.document h.home.found) in
        let waits : (desk_of s proc).reports ≡ reports.Done job outcome None ∷ drop 1 (desk_of s proc).reports = first_of (desk_of s proc).reports (reports.Done job outcome None) first in
        let once : makes_at h.home.document.nr (desk_of s proc) ≡ makes_due h.home.document.is_ready = ap (λ (p : ProcId). makes_at h.home.document.nr (desk_of s p)) (sym (its_home h.home.document h.home.found)) ∙ (tab.docs.each job.doc h.home.document h.home.found).once in
        let told : makes_told h.home.document.nr (desk_of s proc).reports ≡ makes_it h.home.document.nr job + makes_told h.home.document.nr (drop 1 (desk_of s proc).reports) = ap (λ (l : List Report). makes_told h.home.document.nr l) waits in
        let one : makes_it h.home.document.nr job ≡ 1 = rw number (rw (task, nat_eq_refl job.doc.0) refl) in
        let due : makes_due h.home.document.is_ready ≡ 0 = ap makes_due h.home.ready in
        absurd (omega (arith, once, told, one, due))

    by_task : (task : Task) (o : Outcome) → job.task ≡ task → outcome ≡ o → IsOutcomeOf task o → Flows came
    by_task (tasks.Update long at) outcomes.Updated task o out = flowing.report_flows s event proc job outcome first (subst IsPlainOutcome (sym o) tt) flows
    by_task tasks.Freeze outcomes.Frozen task o out = flowing.report_flows s event proc job outcome first (subst IsPlainOutcome (sym o) tt) flows
    by_task tasks.Discard outcomes.Discarded task o out = flowing.report_flows s event proc job outcome first (subst IsPlainOutcome (sym o) tt) flows
    by_task (tasks.Activate entry epoch long at memo address) outcomes.Activated task o out = flowing.report_flows s event proc job outcome first (subst IsPlainOutcome (sym o) tt) flows
    by_task (tasks.Populate nav_ state address initial) (outcomes.Populated slot) task o out =
        populated.report_flows s event proc job slot (subst (λ (x : Outcome). slice_get (desk_of s proc).reports 0 ≡ Some (reports.Done job x None)) o first) its_home (unused nav_ state address initial task) done_held flows
    by_task (tasks.Ask slot cause) (outcomes.Asked verdict) task o out = answering.report_flows s event proc job outcome first (subst answering.IsAnswer (sym o) tt) done_held flows
    by_task (tasks.DoFragment req mode address) outcomes.Fragmented task o out = answering.report_flows s event proc job outcome first (subst answering.IsAnswer (sym o) tt) done_held flows
    by_task (tasks.Update long at) o task is never = absurd never
    by_task tasks.Freeze o task is never = absurd never
    by_task tasks.Discard o task is never = absurd never
    by_task (tasks.Activate entry epoch long at memo address) o task is never = absurd never
    by_task (tasks.Populate nav_ state address initial) o task is never = absurd never
    by_task (tasks.Ask slot cause) o task is never = absurd never
    by_task (tasks.DoFragment req mode address) o task is never = absurd never

    pub done_flows : Flows came
    done_flows = by_task job.task outcome refl refl (its_report (reports.Done job outcome None) first).1

    pub done_tab : IsTab run loads [] came
    done_tab =
        came_tab (reports.Done job outcome None) first [] (flows_if came done_flows)
        (untold_once s (at_hand (open_among s.requests loads) []) event actors.Coord proc (reports.Done job outcome None) first refl tab.once)
        (untold_loads s (at_hand (open_among s.requests loads) []) event actors.Coord proc (reports.Done job outcome None) first refl tab.trips)
        (untold_known s event actors.Coord proc (reports.Done job outcome None) first refl tab.known)
        (told_entries [] s event actors.Coord tab.entries proc (fine (reports.Done job outcome None) first) (rw first refl))
        (unmade_past [] [] s event proc tab.docs (fine (reports.Done job outcome None) first) (ap (λ (l : List Made). l ++ []) done_held) tab.past)
