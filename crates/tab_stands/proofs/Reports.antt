-- A report is delivered that answers no question: what is known of it, and what the event's own row leaves, whatever the report tells.
use Rattle.load_doors.proofs.Starts.{requests_start}
use Rattle.seen_facts.proofs.Asked.Rows.{delivered_plain}
use Rattle.seen_facts.specs.Asked.Asking.{ArePlain}
use Rattle.tab_facts.proofs.Calm.Loads.{loads_same}
use Rattle.seen_facts.proofs.Coord.Unread.{next}
use Rattle.seen_facts.proofs.Desk.Stays.{NoDeath}
use Rattle.seen_facts.specs.Each.Runs.{EachAsked}
use Rattle.tab_facts.specs.Frame.Lasting.{wish}
use Rattle.seen_facts.specs.Home.Homes.{document_in}
use Rattle.seen_facts.specs.Kept.Keeping.{kept_states}
use Rattle.tab_facts.proofs.Last.Rows.{delivered_lasting}
use Rattle.row_facts.proofs.Left.Rows.{were_shown}
use Rattle.load_doors.specs.Tied.{AreTied}
use Rattle.seen_facts.specs.Load.Loading.{Look, is_ongoing, look, look_of}
use Rattle.seen_facts.specs.LoadTies.Tying.{TiesLoads}
use Rattle.log_model.specs.AfterPlaces.{kept_delivered}
use Rattle.log_model.specs.Causes.{denial_at_acceptance}
use Rattle.log_model.specs.Equal.{has_req, holds}
use Rattle.log_model.specs.Orders.{ongoing_load}
use Rattle.log_model.specs.Places.{is_moved, is_moved_in}
use Rattle.log_model.specs.Seen.{Asked, Document, Place, Seen, desk_of, request_in, request_of}
use Rattle.log_model.specs.declared.job.Why.{Why}
use Rattle.log_model.specs.declared.made.Made.{Made}
use Rattle.log_model.specs.declared.made.Report.{Report}
use Rattle.log_model.specs.declared.row_kind.Actor.{Actor}
use Rattle.log_model.specs.declared.row_kind.LogRow.{LogRow}
use Rattle.log_model.specs.declared.row_kind.RowKind.{RowKind}
use Rattle.move_queue.specs.Queue.{Queue}
use Rattle.seen_facts.specs.Request.Knowns.{AreKnown}
use Rattle.row_facts.proofs.RestRows.Rows.{delivered_rests}
use Rattle.row_facts.specs.RestRows.Moving.{AllRest}
use Rattle.seen_laws.proofs.Deliveries.{delivered_row}
use Rattle.seen_laws.specs.InEvent.{InEvent, now_of, row_of}
use Rattle.std.proofs.Common.{Bool, List, None, Option, Some, [], ap, arith, false, inl, inr, length, map, refl, subst, sym, true, ℕ, ◌+◌, ◌<◌, ◌∙◌, ◌≡◌, ◌≤◌, ◌⊎◌}
use Rattle.std.proofs.lemmas.Bool.Decides.{nat_tests}
use Rattle.std.specs.Prelude.{nat_lt, option_map, slice_get}
use Rattle.tab_doors.specs.Look.{look_of as sights_of, moved_by}
use Rattle.tab_doors.specs.Ties.{AreInitial, Holds, IsRunning}
use Rattle.tab_doors.specs.Working.{HasGoal, KeepsRun}
use Rattle.tab_doors.specs.declared.tables.Tables.{Tables}
use Rattle.tab_facts.specs.TabEvents.Between.{IsBetweenChecks}
use Rattle.tab_settles.proofs.Lates.{unstood_by}
use Rattle.tab_settles.proofs.PassedOn.{AreUpTo, IsBegun, causes_on, fine, serve_on, steps_still, waiting_first}
use Rattle.tab_settles.specs.PassedOn.{AreHeldUp, AreLeftStrays, IsGoing, IsStray, IsTab, LoadsMadeOwn, MayCause, count_of, has_ended}
use Rattle.tab_ids.specs.declared.NavId.{NavId}
use Rattle.tab_ids.specs.declared.ProcId.{ProcId}
use Rattle.tab_ids.specs.declared.ReqId.{ReqId}
use Rattle.tab_ids.specs.declared.StateId.{StateId}
use Rattle.tab_ids.specs.declared.Step.{Step}
use Rattle.tab_settles.specs.Settling.{IsWaiting}
use Rattle.tab_stands.proofs.Accepting.{number_low}
use Rattle.tab_stands.proofs.Coming.{IsComing, OnlyArrives}
use Rattle.tab_stands.specs.Standing.{HasRoomFor, InCheck, IsOwnRead, Lasts, StandsFor, seen_start}
use Rattle.log_model.specs.declared.made.Report.TheVariants as reports
use Rattle.log_model.specs.declared.row_kind.Actor.TheVariants as actors
use Rattle.log_model.specs.declared.row_kind.RowKind.TheVariants as rows

-- with other tables that leave the traversal that runs, all that was so before is
pub between_as : (t u : Tables) → KeepsRun t u → (s : Seen) → {loads : List ReqId} {waits : Bool} → IsBetweenChecks t.kept.keep t.running loads waits s → IsBetweenChecks u.kept.keep u.running loads waits s
between_as t u kept s {loads} {waits} between =
    subst (λ (k : ℕ). IsBetweenChecks k u.running loads waits s) (sym kept.keep) (subst (λ (r : Option ReqId). IsBetweenChecks t.kept.keep r loads waits s) (sym kept.running) between)

pub lasts_as : (t u : Tables) → KeepsRun t u → (s : Seen) → Lasts t.running s → Lasts u.running s
lasts_as t u kept s lasts = subst (λ (r : Option ReqId). Lasts r s) (sym kept.running) lasts

pub goal_as : (t u : Tables) → KeepsRun t u → (asked : List Asked) → HasGoal asked t.running t.goal → HasGoal asked u.running u.goal
goal_as t u kept asked has req q is at =
    has req q (sym kept.running ∙ is) at ∙ ap (λ (g : Step). let o : Option Step = Some g in o) (sym kept.goal)

module _ (e : InEvent) (proc : ProcId) (by_coord : e.actor ≡ actors.Coord) (own : e.own ≡ rows.Delivered proc) (t : Tables) (queue : Queue) (blame : List (StateId × ReqId)) {check : InCheck} (stands : StandsFor check (seen_start e) t queue blame) (aside : IsOwnRead e) (report : Report) (first : slice_get (desk_of (seen_start e) proc).reports 0 ≡ Some report) where
  abbrev s : Seen
  s = seen_start e

  abbrev pub told : Seen
  told = next (seen_start e) e.event actors.Coord (rows.Delivered proc)

  pub told_now : now_of e [] ≡ told
  told_now =
      aside
      ∙ (ap (λ (a : Actor). next (seen_start e) e.event a e.own) by_coord
      ∙ ap (λ (k : RowKind). next (seen_start e) e.event actors.Coord k) own)

  pub told_row : row_of e e.own ≡ delivered_row e.event proc
  told_row =
      ap (λ (a : Actor). let r : LogRow = record { event = e.event; actor = a; row = e.own } in r) by_coord
      ∙ ap (λ (k : RowKind). let r : LogRow = record { event = e.event; actor = actors.Coord; row = k } in r) own

  pub told_fine : NoDeath (slice_get (desk_of (seen_start e) proc).reports 0)
  told_fine = fine t.running s e.event proc stands.between.tab stands.between.flows report first

  pub told_kept : told.kept ≡ (seen_start e).kept
  told_kept = ap (λ (o : Option Report). kept_delivered s o) first ∙ by_report report (subst NoDeath first told_fine)
    where
      by_report : (r : Report) → NoDeath (Some r) → kept_delivered s (Some r) ≡ s.kept
      by_report (reports.Done job outcome made) alive = refl
      by_report (reports.Made made) alive = refl
      by_report (reports.Died death) never = absurd never

  pub told_rests : AllRest (now_of e [])
  told_rests = subst (λ (x : Seen). AllRest x) (sym told_now) (delivered_rests s e.event actors.Coord [] stands.between.rests proc told_fine)

  -- ---- where it leaves the requests

  module _ (same : told.requests ≡ (seen_start e).requests) where
    plain : ArePlain t.running told
    plain = delivered_plain t.running s e.event actors.Coord stands.between.tab.asked proc told_fine

    pub told_causes : (why : Why) → MayCause (seen_start e) why → MayCause told why
    told_causes =
        causes_on s told t.running plain (λ req. ap (λ (l : List Asked). option_map wish (request_in l req)) same) (λ this each. subst (λ (l : List Asked). EachAsked (IsBegun this) l) (sym same) each)

    loads_were : (r : ReqId) (l : Look) → look_of told r ≡ Some l → is_ongoing l ≡ true → look_of s r ≡ Some l
    loads_were r l at on = ap (λ (asked : List Asked). option_map look (request_in asked r)) (sym same) ∙ at

    moved_same : (nav : NavId) → is_moved told nav ≡ is_moved s nav
    moved_same nav = ap (λ (asked : List Asked). is_moved_in asked nav) same

    loaded_same : (state : StateId) → ongoing_load told state ≡ ongoing_load s state
    loaded_same state = ap (λ (asked : List Asked). let x : Seen = record s { requests = asked } in ongoing_load x state) same

    -- what joined isn't refused as it is accepted
    early : (req : ReqId) (q : Asked) → request_of (now_of e []) req ≡ Some q → denial_at_acceptance e.start q.what ≡ None ⊎ (nat_lt (length e.start.requests) req.0 ≡ false)
    early req q at =
        let low : req.0 ≤ length s.requests = number_low s.requests req q (ap (λ (l : List Asked). request_in l req) (sym same) ∙ ap (λ (x : Seen). request_of x req) (sym told_now) ∙ at) in
        let many : length s.requests ≡ length e.start.requests = requests_start e in
        inr (grind (arith, nat_tests, low, many))

    pub told_waiting : AreKnown told → e.before ≡ [] → IsWaiting e []
    told_waiting known uncut = waiting_first e uncut (subst (λ (x : Seen). AreKnown x) (sym told_now) known) (λ req q has at. early req q at)

    -- nothing is held back that wasn't before
    pub told_held : told.parked ≡ (seen_start e).parked → AreHeldUp t.running told
    told_held parked = by_run t.running stands.lasts.held
      where
        by_run : (o : Option ReqId) → AreHeldUp o s → AreHeldUp o told
        by_run None held = tt
        by_run (Some run) held =
            λ req q r nav has at its ran. held req q r nav (ap (λ (l : List ReqId). has_req l req) (sym parked) ∙ has) (ap (λ (l : List Asked). request_in l req) (sym same) ∙ at) its (ap (λ (l : List Asked). request_in l run) (sym same) ∙ ran)

    -- ---- what goes on

    pub told_going : HasRoomFor (seen_start e) → (ids : List ReqId) (hand : List Made) → IsTab t.running ids hand told → AreHeldUp t.running told → AreUpTo ((seen_start e).jobs + 1) told.places → IsGoing t.running ids hand (now_of e [])
    told_going room ids hand tab held epochs = subst (λ (x : Seen). IsGoing t.running ids hand x) (sym told_now) going
      where
        going : IsGoing t.running ids hand told
        going =
            record {
              tab = tab;
              lasting = delivered_lasting s e.event actors.Coord stands.lasts.lasting proc told_fine;
              counted = record {
                entries = subst (λ (l : List Asked). s.entries ≤ 1 + count_of has_ended l) (sym same) stands.lasts.counted.entries;
                epochs = epochs;
              };
              steps = steps_still s told stands.lasts.steps refl (let as_many : count_of has_ended told.requests ≡ count_of has_ended s.requests = ap (λ (l : List Asked). count_of has_ended l) same in omega (arith, as_many));
              held = held;
              room = (let long : length told.requests ≡ length s.requests = ap (λ (l : List Asked). length l) same in let low : length s.requests + 3 < 4294967296 = room in omega (arith, long, low));
            }

    -- ---- the tables

    pub told_tied : (u : Tables) → KeepsRun t u → Holds (sights_of told t.running) u → TiesLoads told u.loads → u.initial.entries ≡ t.initial.entries → u.kept.states ≡ kept_states told → length told.documents ≤ (seen_start e).jobs + 1 → AreTied (now_of e []) u
    told_tied u kept holds_ loads initial states few = subst (λ (x : Seen). AreTied x u) (sym told_now) tied
      where
        tied : AreTied told u
        tied =
            record {
              holds = subst (λ (r : Option ReqId). Holds (sights_of told r) u) (sym kept.running) holds_;
              runs = subst (λ (r : Option ReqId). IsRunning told.requests r) (sym kept.running) (subst (λ (l : List Asked). IsRunning l t.running) (sym same) stands.tied.runs);
              goal = goal_as t u kept told.requests (subst (λ (l : List Asked). HasGoal l t.running t.goal) (sym same) stands.tied.goal);
              few = few;
              initial = subst (λ (l : List (StateId × Unit {0})). AreInitial told.initial_states l) (sym initial) stands.tied.initial;
              loads = loads;
              kept = states;
            }

    pub told_moved : moved_by told.requests t.running ≡ moved_by (seen_start e).requests t.running
    told_moved = ap (λ (l : List Asked). moved_by l t.running) same

    -- ---- what comes, where documents are as they were

    module _ (g : Place → Place) (arrives : OnlyArrives g) (places : told.places ≡ map g (seen_start e).places) (documents : told.documents ≡ (seen_start e).documents) where
      strays_still : AreLeftStrays told blame
      strays_still doc state stray =
          let was : IsStray s doc state = record { document = stray.document; found = ap (λ (l : List Document). document_in l doc) (sym documents) ∙ stray.found; its_state = stray.its_state; ready = stray.ready; undiscarded = stray.undiscarded; bare = stray.bare; unloaded = sym (loaded_same state) ∙ stray.unloaded } in
          let it = stands.strays doc state was in
          record { req = it.req; noted = it.noted; may = serve_on s told it.req told_causes it.may; bare = λ d found. it.bare d (ap (λ (l : List Document). document_in l doc) (sym documents) ∙ found) }

      theirs_still : LoadsMadeOwn told
      theirs_still r q made found load makes =
          let its = stands.lasts.made r q made (ap (λ (l : List Asked). request_in l r) (sym same) ∙ found) load makes in
          (record { d = its.0.d; found = ap (λ (l : List Document). document_in l made.doc) documents ∙ its.0.found; nav_is = its.0.nav_is }, its.1)

      coming : IsComing blame s told
      coming =
          record {
            g = g;
            arrives = arrives;
            places = places;
            history = refl;
            kept = told_kept;
            asked = λ req q at. record { now = q; at = ap (λ (l : List Asked). request_in l req) same ∙ at; same = refl; changed = λ change is. is };
            loads = loads_were;
            loading = loads_same s told loads_were (λ doc. ap (λ (l : List Document). document_in l doc) documents) stands.between.loading;
            serves = λ req may. serve_on s told req told_causes may;
            moved = moved_same;
            states = λ doc. ap (λ (l : List Document). option_map (λ (d : Document). d.state) (document_in l doc)) documents;
            homes = λ doc d found. (d, ap (λ (l : List Document). document_in l doc) documents ∙ found, refl);
            strays = λ doc state stray. inl (strays_still doc state stray);
            were = were_shown s e.event actors.Coord stands.lasts.were (rows.Delivered proc) tt;
            theirs = theirs_still;
            step = refl;
            unstood = λ off away. unstood_by s (record { event = e.event; actor = actors.Coord; row = rows.Delivered proc }) refl away off;
          }

      pub told_comes : IsComing blame (seen_start e) (now_of e [])
      told_comes = subst (λ (x : Seen). IsComing blame s x) (sym told_now) coming
