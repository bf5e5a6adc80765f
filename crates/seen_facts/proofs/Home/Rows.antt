-- Each awake navigable's document is at home from row to row: rows that leave who is awake.
use Rattle.std.proofs.Common.{◌≡◌, ℕ, Bool, true, false, cond, ◌&&◌, ◌==◌, List, [], ◌∷◌, ◌++◌, map, Option, Some, None, refl, sym, ◌∙◌, subst}
use Rattle.std.specs.Prelude.{is_none, option_map, slice_get}
use Rattle.std.specs.Option.{option_map_or}
use Rattle.std.proofs.lemmas.List.{map-id}
use Rattle.tab_ids.specs.declared.NavId.{NavId}
use Rattle.tab_ids.specs.declared.ProcId.{ProcId}
use Rattle.tab_ids.specs.declared.StateId.{StateId}
use Rattle.log_model.specs.declared.job.Job.{Job}
use Rattle.log_model.specs.declared.job.Task.{Task}
use Rattle.log_model.specs.declared.job.Task.TheVariants as tasks
use Rattle.log_model.specs.declared.made.Report.{Report}
use Rattle.log_model.specs.declared.made.Report.TheVariants as reports
use Rattle.log_model.specs.declared.outcome.Outcome.{Outcome}
use Rattle.log_model.specs.declared.outcome.Outcome.TheVariants as outcomes
use Rattle.log_model.specs.declared.row_kind.Actor.{Actor}
use Rattle.log_model.specs.declared.row_kind.RowKind.{RowKind}
use Rattle.log_model.specs.declared.row_kind.RowKind.TheVariants as rows
use Rattle.log_model.specs.After.{after}
use Rattle.log_model.specs.AfterDocuments.{addressed, new_document, on_document, task_in_hand, view_finished, documents_finished, slot_finished, documents_delivered}
use Rattle.log_model.specs.AfterPlaces.{on_place, place_arrived, places_delivered}
use Rattle.log_model.specs.Seen.{Seen, Document, Place, document_of, desk_of}
use Rattle.log_model.specs.Views.{View, after_made}
use Rattle.seen_facts.specs.Home.Homes.{AreHomed}
use Rattle.seen_facts.proofs.Home.Again.{KeepsHome, AllStayIn, all_same, all_mapped, all_on, all_more, all_both, left_homed}
use Rattle.seen_facts.proofs.Home.Mapped.{KeepsWake, keeps_on, alike_homed}

-- the row changes neither the places nor a document's home
abbrev pub LeavesHomes : RowKind → Type 0
LeavesHomes (rows.Accepted req doc what) = Unit {0}
LeavesHomes (rows.Started req goal) = Unit {0}
LeavesHomes (rows.Refused req reason) = Unit {0}
LeavesHomes (rows.Dropped req cause) = Unit {0}
LeavesHomes (rows.Taken proc job live dirty) = Unit {0}
LeavesHomes (rows.Finished proc job outcome) = Unit {0}
LeavesHomes (rows.Made proc made) = Unit {0}
LeavesHomes (rows.Prompted req doc) = Unit {0}
LeavesHomes (rows.Answered req stay) = Unit {0}
LeavesHomes (rows.Killed proc death) = Unit {0}
LeavesHomes (rows.Evicted state) = Unit {0}
LeavesHomes _ = ⊥

-- a change of the view, or of the slot, alone
kept : (d new : Document) → new.nav ≡ d.nav → new.state ≡ d.state → new.is_ready ≡ d.is_ready → new.is_discarded ≡ d.is_discarded → new.is_known_dead ≡ d.is_known_dead → KeepsHome d new
kept d new nav state ready discarded known = record { nav = nav; state = state; ready = λ e. ready ∙ e; discarded = discarded; known = known }

finished_stay : (documents : List Document) (o : Option Job) (outcome : Outcome) → AllStayIn documents (slot_finished (documents_finished documents o) o outcome)
finished_stay documents None outcome = all_same documents
finished_stay documents (Some job) outcome = by_outcome outcome
  where
    viewed : AllStayIn documents (documents_finished documents (Some job))
    viewed = all_on job.doc (λ d. record d { view = view_finished d job.task }) documents (λ d. refl) (λ d. kept d (record d { view = view_finished d job.task }) refl refl refl refl refl)

    slotted : (slot : Option ℕ) → AllStayIn (documents_finished documents (Some job)) (on_document job.doc (λ d. record d { slot = slot }) (documents_finished documents (Some job)))
    slotted slot = all_on job.doc (λ d. record d { slot = slot }) (documents_finished documents (Some job)) (λ d. refl) (λ d. kept d (record d { slot = slot }) refl refl refl refl refl)

    by_outcome : (u : Outcome) → AllStayIn documents (slot_finished (documents_finished documents (Some job)) (Some job) u)
    by_outcome (outcomes.Populated slot) = all_both documents (documents_finished documents (Some job)) (slot_finished (documents_finished documents (Some job)) (Some job) (outcomes.Populated slot)) viewed (slotted slot)
    by_outcome outcomes.Activated = viewed
    by_outcome outcomes.Updated = viewed
    by_outcome outcomes.Frozen = viewed
    by_outcome outcomes.Discarded = viewed
    by_outcome (outcomes.Asked verdict) = viewed
    by_outcome outcomes.Fragmented = viewed

module _ (s : Seen) (event : ℕ) (actor : Actor) (homes : AreHomed s) where
  abbrev then_ : RowKind → Seen
  then_ kind = after s (record { event = event; actor = actor; row = kind })

  pub left_rows : (kind : RowKind) → LeavesHomes kind → AreHomed (then_ kind)
  left_rows (rows.Opened entry state doc proc slot address) never = absurd never
  left_rows (rows.Accepted req doc what) leaves = left_homed s (then_ (rows.Accepted req doc what)) refl refl (all_same s.documents) homes
  left_rows (rows.Started req goal) leaves = left_homed s (then_ (rows.Started req goal)) refl refl (all_same s.documents) homes
  left_rows (rows.Applied req change) never = absurd never
  left_rows (rows.Refused req reason) leaves = left_homed s (then_ (rows.Refused req reason)) refl refl (all_same s.documents) homes
  left_rows (rows.Dropped req cause) leaves = left_homed s (then_ (rows.Dropped req cause)) refl refl (all_same s.documents) homes
  left_rows (rows.Sent job) never = absurd never
  left_rows (rows.Taken proc job live dirty) leaves = left_homed s (then_ (rows.Taken proc job live dirty)) refl refl (all_same s.documents) homes
  left_rows (rows.Finished proc job outcome) leaves =
      left_homed s (then_ (rows.Finished proc job outcome)) refl refl (finished_stay s.documents (task_in_hand s proc) outcome) homes
  left_rows (rows.Made proc made) leaves =
      left_homed s (then_ (rows.Made proc made)) refl refl (all_on made.doc (λ d. record d { view = option_map (λ (view : View). after_made view made.what) d.view }) s.documents (λ d. refl) (λ d. kept d (record d { view = option_map (λ (view : View). after_made view made.what) d.view }) refl refl refl refl refl)) homes
  left_rows (rows.Delivered proc) never = absurd never
  left_rows (rows.Prompted req doc) leaves = left_homed s (then_ (rows.Prompted req doc)) refl refl (all_same s.documents) homes
  left_rows (rows.Answered req stay) leaves = left_homed s (then_ (rows.Answered req stay)) refl refl (all_same s.documents) homes
  left_rows (rows.Killed proc death) leaves =
      left_homed s (then_ (rows.Killed proc death)) refl refl (all_mapped killed s.documents (λ d. number d (d.proc.0 == proc.0 && is_none d.dead_by)) (λ d. keeps d (d.proc.0 == proc.0 && is_none d.dead_by))) homes
    where
      killed : Document → Document
      killed d = cond (d.proc.0 == proc.0 && is_none d.dead_by) (record d { dead_by = Some death; view = None }) d

      number : (d : Document) (b : Bool) → (let x : Document = cond b (record d { dead_by = Some death; view = None }) d in x).nr.0 ≡ d.nr.0
      number d true = refl
      number d false = refl

      keeps : (d : Document) (b : Bool) → KeepsHome d (cond b (record d { dead_by = Some death; view = None }) d)
      keeps d true = kept d (record d { dead_by = Some death; view = None }) refl refl refl refl refl
      keeps d false = kept d d refl refl refl refl refl
  left_rows (rows.Evicted state) leaves = left_homed s (then_ (rows.Evicted state)) refl refl (all_same s.documents) homes

  -- ---- orders that put nobody to sleep

  -- the order tells something, asks, or is a fragment navigation
  abbrev pub IsTelling : Task → Type 0
  IsTelling (tasks.Update length index) = Unit {0}
  IsTelling (tasks.Ask slot cause) = Unit {0}
  IsTelling (tasks.DoFragment req mode address) = Unit {0}
  IsTelling _ = ⊥

  pub told_homed : (job : Job) (task : Task) → job.task ≡ task → IsTelling task → AreHomed (then_ (rows.Sent job))
  told_homed job (tasks.Update length index) is tells =
      left_homed s (then_ (rows.Sent job)) (rw is refl) refl (subst (λ (l : List Document). AllStayIn s.documents l) (let e : on_document job.doc (addressed (tasks.Update length index)) s.documents ≡ (then_ (rows.Sent job)).documents = rw is refl in e) (all_on job.doc (addressed (tasks.Update length index)) s.documents (λ d. refl) (λ d. kept d (addressed (tasks.Update length index) d) refl refl refl refl refl))) homes
  told_homed job (tasks.Ask slot cause) is tells =
      left_homed s (then_ (rows.Sent job)) (rw is refl) refl (subst (λ (l : List Document). AllStayIn s.documents l) (let e : on_document job.doc (addressed (tasks.Ask slot cause)) s.documents ≡ (then_ (rows.Sent job)).documents = rw is refl in e) (all_on job.doc (addressed (tasks.Ask slot cause)) s.documents (λ d. refl) (λ d. kept d (addressed (tasks.Ask slot cause) d) refl refl refl refl refl))) homes
  told_homed job (tasks.DoFragment req mode address) is tells =
      left_homed s (then_ (rows.Sent job)) (rw is refl) refl (subst (λ (l : List Document). AllStayIn s.documents l) (let e : on_document job.doc (addressed (tasks.DoFragment req mode address)) s.documents ≡ (then_ (rows.Sent job)).documents = rw is refl in e) (all_on job.doc (addressed (tasks.DoFragment req mode address)) s.documents (λ d. refl) (λ d. kept d (addressed (tasks.DoFragment req mode address) d) refl refl refl refl refl))) homes
  told_homed job (tasks.Populate nav state address initial) is never = absurd never
  told_homed job (tasks.Activate entry epoch length index memo address) is never = absurd never
  told_homed job tasks.Freeze is never = absurd never
  told_homed job tasks.Discard is never = absurd never

  pub make_homed : (job : Job) (nav : NavId) (state : StateId) (address : List ℕ) (initial : Bool) → job.task ≡ tasks.Populate nav state address initial → AreHomed (then_ (rows.Sent job))
  make_homed job nav state address initial is =
      left_homed s (then_ (rows.Sent job)) (rw is refl) refl (subst (λ (l : List Document). AllStayIn s.documents l) (let e : s.documents ++ new_document s job nav state ∷ [] ≡ (then_ (rows.Sent job)).documents = rw is refl in e) (all_more s.documents (new_document s job nav state))) homes

  -- ---- a report that tells of no death

  abbrev pub IsNoDeath : Option Report → Type 0
  IsNoDeath (Some (reports.Died death)) = ⊥
  IsNoDeath _ = Unit {0}

  delivered_stay : (o : Option Report) → IsNoDeath o → AllStayIn s.documents (documents_delivered s.documents o)
  delivered_stay None no_death = all_same s.documents
  delivered_stay (Some (reports.Died death)) never = absurd never
  delivered_stay (Some (reports.Made made)) no_death = all_same s.documents
  delivered_stay (Some (reports.Done job (outcomes.Populated slot) made)) no_death =
      all_on job.doc (λ d. record d { is_ready = true; is_fresh = true }) s.documents (λ d. refl) (λ d. record { nav = refl; state = refl; ready = λ e. refl; discarded = refl; known = refl })
  delivered_stay (Some (reports.Done job outcomes.Activated made)) no_death = all_same s.documents
  delivered_stay (Some (reports.Done job outcomes.Updated made)) no_death = all_same s.documents
  delivered_stay (Some (reports.Done job outcomes.Frozen made)) no_death = all_same s.documents
  delivered_stay (Some (reports.Done job outcomes.Discarded made)) no_death = all_same s.documents
  delivered_stay (Some (reports.Done job (outcomes.Asked verdict) made)) no_death = all_same s.documents
  delivered_stay (Some (reports.Done job outcomes.Fragmented made)) no_death = all_same s.documents

  -- what it makes of each place
  record ArrivesBy (places : List Place) : Type 0 where
    g : Place → Place
    keeps : KeepsWake g
    given : (p : Place) → (g p).given ≡ p.given
    are : places ≡ map g s.places

  nobody : ArrivesBy s.places
  nobody =
      record {
        g = λ p. p;
        keeps = record { nav = λ p. refl; above = λ p. refl; owners = λ p. refl; status = λ p. refl; last = λ p. refl };
        given = λ p. refl;
        are = sym (map-id s.places);
      }

  arrives_at : (job : Job) (o : Option Document) → ArrivesBy (option_map_or (λ (d : Document). on_place d.nav (place_arrived job) s.places) o s.places)
  arrives_at job None = nobody
  arrives_at job (Some d) =
      record {
        g = λ (p : Place). cond (p.nav.0 == d.nav.0) (place_arrived job p) p;
        keeps = keeps_on d.nav (place_arrived job) (record { nav = λ p. refl; above = λ p. refl; owners = λ p. refl; status = λ p. refl; last = λ p. refl });
        given = λ p. elim (p.nav.0 == d.nav.0) as (λ b. (let q : Place = cond b (place_arrived job p) p in q).given ≡ p.given) [ true ↦ refl | false ↦ refl ];
        are = refl;
      }

  arrives_by : (o : Option Report) → IsNoDeath o → ArrivesBy (places_delivered s o)
  arrives_by None no_death = nobody
  arrives_by (Some (reports.Died death)) never = absurd never
  arrives_by (Some (reports.Made made)) no_death = nobody
  arrives_by (Some (reports.Done job outcome made)) no_death = by_task job.task
    where
      by_task : (task : Task) → ArrivesBy (places_delivered s (Some (reports.Done (record job { task = task }) outcome made)))
      by_task (tasks.Activate entry epoch length index memo address) = arrives_at job (document_of s job.doc)
      by_task (tasks.Populate nav state address initial) = nobody
      by_task (tasks.Update length index) = nobody
      by_task tasks.Freeze = nobody
      by_task tasks.Discard = nobody
      by_task (tasks.Ask slot cause) = nobody
      by_task (tasks.DoFragment req mode address) = nobody

  pub delivered_homed : (proc : ProcId) → IsNoDeath (slice_get (desk_of s proc).reports 0) → AreHomed (then_ (rows.Delivered proc))
  delivered_homed proc no_death =
      let a : ArrivesBy (places_delivered s (slice_get (desk_of s proc).reports 0)) = arrives_by (slice_get (desk_of s proc).reports 0) no_death in
      alike_homed s (then_ (rows.Delivered proc)) a.g a.keeps a.are (delivered_stay (slice_get (desk_of s proc).reports 0) no_death) homes a.given (λ row there. there)
