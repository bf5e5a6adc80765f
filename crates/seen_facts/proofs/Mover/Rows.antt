-- Who moved each navigable away, over each row that sends no order and applies nothing: what users and processes do, requests that begin and end, reports but of a death, and the tab's opening.
use Rattle.std.proofs.Common.{◌≡◌, ℕ, ◌+◌, Bool, true, false, cond, ◌==◌, List, [], length, Option, Some, None, refl, ap, ◌∙◌}
use Rattle.std.specs.Prelude.{slice_get}
use Rattle.std.specs.Option.{option_map_or}
use Rattle.tab_ids.specs.declared.Death.{Death}
use Rattle.tab_ids.specs.declared.DocId.{DocId}
use Rattle.tab_ids.specs.declared.EntryId.{EntryId}
use Rattle.tab_ids.specs.declared.JobId.{JobId}
use Rattle.tab_ids.specs.declared.NavId.{NavId}
use Rattle.tab_ids.specs.declared.ProcId.{ProcId}
use Rattle.tab_ids.specs.declared.ReqId.{ReqId}
use Rattle.tab_ids.specs.declared.StateId.{StateId}
use Rattle.tab_ids.specs.declared.Step.{Step}
use Rattle.log_model.specs.declared.job.Job.{Job}
use Rattle.log_model.specs.declared.job.Task.{Task}
use Rattle.log_model.specs.declared.job.Task.TheVariants as tasks
use Rattle.log_model.specs.declared.made.Made.{Made}
use Rattle.log_model.specs.declared.made.Report.{Report}
use Rattle.log_model.specs.declared.made.Report.TheVariants as reports
use Rattle.log_model.specs.declared.outcome.Cause.{Cause}
use Rattle.log_model.specs.declared.outcome.Denial.{Denial}
use Rattle.log_model.specs.declared.outcome.Ending.TheVariants as endings
use Rattle.log_model.specs.declared.outcome.Outcome.{Outcome}
use Rattle.log_model.specs.declared.request.Request.{Request}
use Rattle.log_model.specs.declared.row_kind.Actor.{Actor}
use Rattle.log_model.specs.declared.row_kind.RowKind.{RowKind}
use Rattle.log_model.specs.declared.row_kind.RowKind.TheVariants as rows
use Rattle.log_model.specs.After.{after}
use Rattle.log_model.specs.AfterPlaces.{on_place, opening_place, place_arrived, places_delivered}
use Rattle.log_model.specs.Seen.{Seen, Asked, Document, Place, desk_of, document_of, nothing, place_of, request_in}
use Rattle.log_model.specs.Places.{has_passed}
use Rattle.seen_facts.specs.Asked.Asking.{HavePassed}
use Rattle.seen_facts.proofs.Asked.Passed.{IsNext, IsNoQuestion, have_passed}
use Rattle.seen_facts.specs.Mover.Movers.{AllChangeAsTheyEnd, AreMovers, IsMovedAway, ChangesAsItEnds, was_moved}
use Rattle.seen_facts.proofs.Mover.Asked.{AllFollow, all_go_on, all_same, all_ends, begun_follow, delivered_follow, ended_follow, finished_follow, more_go_on, more_ends, on_follows, same_deed}
use Rattle.seen_facts.proofs.Mover.Places.{KeepPlaces, moved_again, places_if, same_places}
use Rattle.seen_facts.proofs.Mover.Stays.{GoOn, left_movers}

-- no death is reported
abbrev pub NoDeath : Option Report → Type 0
NoDeath (Some (reports.Died death)) = ⊥
NoDeath _ = Unit {0}

-- ---- a report is delivered that tells of no death

arrived_places : (s : Seen) (job : Job) (o : Option Document) → KeepPlaces s.places (option_map_or (λ (d : Document). on_place d.nav (place_arrived job) s.places) o s.places)
arrived_places s job None = same_places s.places
arrived_places s job (Some d) =
    places_if (λ (p : Place). p.nav.0 == d.nav.0) (place_arrived job) s.places (record { nav = λ p. refl; above = λ p. refl; given = λ p test any. any }) (record { nav = λ p. refl; status = λ p. refl; epoch = λ p. refl; why = λ p. refl })

delivered_places : (s : Seen) (o : Option Report) → NoDeath o → KeepPlaces s.places (places_delivered s o)
delivered_places s None no_death = same_places s.places
delivered_places s (Some (reports.Died death)) never = absurd never
delivered_places s (Some (reports.Made made)) no_death = same_places s.places
delivered_places s (Some (reports.Done job outcome made)) no_death = by_task job.task
  where
    by_task : (task : Task) → KeepPlaces s.places (places_delivered s (Some (reports.Done (record job { task = task }) outcome made)))
    by_task (tasks.Activate entry epoch length index memo address) = arrived_places s job (document_of s job.doc)
    by_task (tasks.Populate nav state address initial) = same_places s.places
    by_task (tasks.Update length index) = same_places s.places
    by_task tasks.Freeze = same_places s.places
    by_task tasks.Discard = same_places s.places
    by_task (tasks.Ask slot cause) = same_places s.places
    by_task (tasks.DoFragment req mode address) = same_places s.places

-- ---- the rows

-- places stay, and requests go on
pub quiet_movers : (s t : Seen) → AreMovers s → GoOn s.requests t.requests → AllChangeAsTheyEnd t.requests → HavePassed t → KeepPlaces s.places t.places → AreMovers t
quiet_movers s t are requests ends passed places =
    left_movers s t (record {
      ways = places.ways;
      requests = requests;
      ends = ends;
      passed = passed;
      moved = λ nav place there moved. moved_again s nav place are.away (places.whys nav place there moved);
    })

pub quietly_follow : (s t : Seen) → AreMovers s → AllFollow s.requests t.requests → HavePassed t → KeepPlaces s.places t.places → AreMovers t
quietly_follow s t are follow passed places =
    quiet_movers s t are (all_go_on s.requests t.requests follow) (all_ends s.requests t.requests follow are.ends) passed places

module _ (s : Seen) (event : ℕ) (actor : Actor) (are : AreMovers s) where
  abbrev then_ : RowKind → Seen
  then_ kind = after s (record { event = event; actor = actor; row = kind })

  passed_then : (kind : RowKind) → IsNoQuestion kind → IsNext s kind → HavePassed (then_ kind)
  passed_then kind quiet next =
      have_passed s (record { event = event; actor = actor; row = kind }) quiet next are.passed

  pub accepted_movers : (req : ReqId) (doc : Option DocId) (what : Request) → req.0 ≡ length s.requests + 1 → AreMovers (then_ (rows.Accepted req doc what))
  accepted_movers req doc what next =
      quiet_movers s (then_ (rows.Accepted req doc what)) are (more_go_on s.requests req doc what next) (more_ends s.requests req doc what next are.ends) (passed_then (rows.Accepted req doc what) tt next) (same_places s.places)

  pub started_movers : (req : ReqId) (goal : Option Step) → AreMovers (then_ (rows.Started req goal))
  started_movers req goal =
      quietly_follow s (then_ (rows.Started req goal)) are (begun_follow s s.requests req goal) (passed_then (rows.Started req goal) tt tt) (same_places s.places)

  pub refused_movers : (req : ReqId) (reason : Denial) → AreMovers (then_ (rows.Refused req reason))
  refused_movers req reason =
      quietly_follow s (then_ (rows.Refused req reason)) are (ended_follow s.requests req (endings.Refused reason)) (passed_then (rows.Refused req reason) tt tt) (same_places s.places)

  pub dropped_movers : (req : ReqId) (cause : Cause) → AreMovers (then_ (rows.Dropped req cause))
  dropped_movers req cause =
      quietly_follow s (then_ (rows.Dropped req cause)) are (ended_follow s.requests req (endings.Dropped cause)) (passed_then (rows.Dropped req cause) tt tt) (same_places s.places)

  pub answered_movers : (req : ReqId) (stay : Bool) → stay ≡ false → AreMovers (then_ (rows.Answered req stay))
  answered_movers req stay leave =
      quietly_follow s (then_ (rows.Answered req stay)) are (on_follows s.requests req (λ q. record q { answered = Some stay }) (λ q. same_deed q (record q { answered = Some stay }) refl)) (passed_then (rows.Answered req stay) leave tt) (same_places s.places)

  pub evicted_movers : (state : StateId) → AreMovers (then_ (rows.Evicted state))
  evicted_movers state =
      quietly_follow s (then_ (rows.Evicted state)) are (all_same s.requests) (passed_then (rows.Evicted state) tt tt) (same_places s.places)

  pub killed_movers : (proc : ProcId) (death : Death) → AreMovers (then_ (rows.Killed proc death))
  killed_movers proc death =
      quietly_follow s (then_ (rows.Killed proc death)) are (all_same s.requests) (passed_then (rows.Killed proc death) tt tt) (same_places s.places)

  pub taken_movers : (proc : ProcId) (job : JobId) (live dirty : Bool) → AreMovers (then_ (rows.Taken proc job live dirty))
  taken_movers proc job live dirty =
      quietly_follow s (then_ (rows.Taken proc job live dirty)) are (all_same s.requests) (passed_then (rows.Taken proc job live dirty) tt tt) (same_places s.places)

  pub finished_movers : (proc : ProcId) (job : JobId) (outcome : Outcome) → AreMovers (then_ (rows.Finished proc job outcome))
  finished_movers proc job outcome =
      quietly_follow s (then_ (rows.Finished proc job outcome)) are (finished_follow s (desk_of s proc).in_hand outcome s.requests) (passed_then (rows.Finished proc job outcome) tt tt) (same_places s.places)

  pub made_movers : (proc : ProcId) (made : Made) → AreMovers (then_ (rows.Made proc made))
  made_movers proc made =
      quietly_follow s (then_ (rows.Made proc made)) are (on_follows s.requests made.req (λ q. record q { made = Some made }) (λ q. same_deed q (record q { made = Some made }) refl)) (passed_then (rows.Made proc made) tt tt) (same_places s.places)

  pub delivered_movers : (proc : ProcId) → NoDeath (slice_get (desk_of s proc).reports 0) → AreMovers (then_ (rows.Delivered proc))
  delivered_movers proc no_death =
      let report = slice_get (desk_of s proc).reports 0 in
      quietly_follow s (then_ (rows.Delivered proc)) are (delivered_follow report s.requests) (passed_then (rows.Delivered proc) tt tt) (delivered_places s report no_death)

-- as the tab opens nothing is asked, and its navigable is shown its first document
pub opened_movers : (event : ℕ) (actor : Actor) (entry : EntryId) (state : StateId) (doc : DocId) (proc : ProcId) (slot : Option ℕ) (address : List ℕ) → AreMovers (after nothing (record { event = event; actor = actor; row = rows.Opened entry state doc proc slot address }))
opened_movers event actor entry state doc proc slot address =
    record { ends = none; passed = λ req q at. nobody req q at; away = still }
  where
    opened : Seen
    opened = after nothing (record { event = event; actor = actor; row = rows.Opened entry state doc proc slot address })

    none : (req : ReqId) (q : Asked) → request_in [] req ≡ Some q → ChangesAsItEnds req q
    none req q at = by_number (req.0 == 0) at
      where
        by_number : (b : Bool) → (let o : Option Asked = cond b None None in o) ≡ Some q → ChangesAsItEnds req q
        by_number true e = cc
        by_number false e = cc

    nobody : (req : ReqId) (q : Asked) → request_in [] req ≡ Some q → has_passed opened q ≡ true
    nobody req q at = by_number (req.0 == 0) at
      where
        by_number : (b : Bool) → (let o : Option Asked = cond b None None in o) ≡ Some q → has_passed opened q ≡ true
        by_number true e = cc
        by_number false e = cc

    still : (nav : NavId) (place : Place) → place_of opened nav ≡ Some place → was_moved place ≡ true → IsMovedAway opened place
    still nav place there moved = by_nav (0 == nav.0) there
      where
        by_nav : (b : Bool) → (let o : Option Place = cond b (Some (opening_place entry doc)) None in o) ≡ Some place → IsMovedAway opened place
        by_nav true f =
            let same : opening_place entry doc ≡ place = cc in
            let no_ : false ≡ true = ap was_moved same ∙ moved in
            absurd cc
        by_nav false f = absurd cc
