-- The kept documents stay over each row that shows no document, discards none and applies nothing: what users and processes do, requests that begin and end, reports but of a death, and the tab's opening.
use Rattle.std.proofs.Common.{◌≡◌, ℕ, Bool, true, false, cond, ◌&&◌, ◌==◌, List, Option, Some, None, refl, sym, ap, ◌∙◌, subst}
use Rattle.std.specs.Prelude.{is_none, option_map, slice_get}
use Rattle.std.specs.Option.{option_map_or}
use Rattle.std.proofs.lemmas.Bool.{eqb-true}
use Rattle.tab_ids.specs.declared.DocId.{DocId}
use Rattle.tab_ids.specs.declared.EntryId.{EntryId}
use Rattle.tab_ids.specs.declared.NavId.{NavId}
use Rattle.tab_ids.specs.declared.ProcId.{ProcId}
use Rattle.tab_ids.specs.declared.StateId.{StateId}
use Rattle.log_model.specs.declared.job.Job.{Job}
use Rattle.log_model.specs.declared.job.Task.{Task}
use Rattle.log_model.specs.declared.job.Task.TheVariants as tasks
use Rattle.log_model.specs.declared.made.Report.{Report}
use Rattle.log_model.specs.declared.made.Report.TheVariants as reports
use Rattle.log_model.specs.declared.outcome.Outcome.{Outcome}
use Rattle.log_model.specs.declared.outcome.Outcome.TheVariants as outcomes
use Rattle.log_model.specs.declared.row_kind.Actor.{Actor}
use Rattle.log_model.specs.declared.row_kind.RowKind.{RowKind}
use Rattle.log_model.specs.declared.row_kind.RowKind.TheVariants as rows
use Rattle.log_model.specs.After.{after}
use Rattle.log_model.specs.AfterDocuments.{on_document, opening_document, task_in_hand, view_finished, documents_finished, slot_finished, documents_delivered}
use Rattle.log_model.specs.AfterPlaces.{kept_delivered, on_place, opening_place, place_arrived, places_delivered}
use Rattle.log_model.specs.Seen.{Seen, Document, Place, nothing, document_of, desk_of, place_of}
use Rattle.log_model.proofs.Refl.{nat_eq_refl}
use Rattle.log_model.specs.Views.{View, after_made}
use Rattle.seen_facts.proofs.Home.Again.{KeepsHome, AllStayIn, all_same, all_mapped, all_on, all_both}
use Rattle.seen_facts.proofs.Home.Rows.{LeavesHomes}
use Rattle.seen_facts.specs.Kept.Keeping.{AreKeptDocs, IsMadeFor}
use Rattle.seen_facts.proofs.Kept.Stays.{KeepLasts, if_last, lasts_mapped, left_kept, same_lasts}

-- no death is reported
abbrev pub NoDeath : Option Report → Type 0
NoDeath (Some (reports.Died death)) = ⊥
NoDeath _ = Unit {0}

-- a change of a document that leaves what is told here
kept : (d new : Document) → new.nav ≡ d.nav → new.state ≡ d.state → new.is_ready ≡ d.is_ready → new.is_discarded ≡ d.is_discarded → new.is_known_dead ≡ d.is_known_dead → KeepsHome d new
kept d new nav state ready discarded known = record { nav = nav; state = state; ready = λ e. ready ∙ e; discarded = discarded; known = known }

-- ---- an order is finished

finished_stay : (documents : List Document) (o : Option Job) (outcome : Outcome) → AllStayIn documents (slot_finished (documents_finished documents o) o outcome)
finished_stay documents None outcome = all_same documents
finished_stay documents (Some job) outcome = by_outcome outcome
  where
    viewed : AllStayIn documents (documents_finished documents (Some job))
    viewed = all_on job.doc (λ d. record d { view = view_finished d job.task }) documents (λ d. refl) (λ d. kept d (record d { view = view_finished d job.task }) refl refl refl refl refl)

    slotted : (slot : Option ℕ) → AllStayIn (documents_finished documents (Some job)) (on_document job.doc (λ d. record d { slot = slot }) (documents_finished documents (Some job)))
    slotted slot = all_on job.doc (λ d. record d { slot = slot }) (documents_finished documents (Some job)) (λ d. refl) (λ d. kept d (record d { slot = slot }) refl refl refl refl refl)

    by_outcome : (u : Outcome) → AllStayIn documents (slot_finished (documents_finished documents (Some job)) (Some job) u)
    by_outcome (outcomes.Populated slot) = all_both documents (documents_finished documents (Some job)) (slot_finished (documents_finished documents (Some job)) (Some job) (outcomes.Populated slot)) viewed (slotted slot)
    by_outcome outcomes.Activated = viewed
    by_outcome outcomes.Updated = viewed
    by_outcome outcomes.Frozen = viewed
    by_outcome outcomes.Discarded = viewed
    by_outcome (outcomes.Asked verdict) = viewed
    by_outcome outcomes.Fragmented = viewed

-- ---- a report is delivered that tells of no death

delivered_stay : (documents : List Document) (o : Option Report) → NoDeath o → AllStayIn documents (documents_delivered documents o)
delivered_stay documents None no_death = all_same documents
delivered_stay documents (Some (reports.Died death)) never = absurd never
delivered_stay documents (Some (reports.Made made)) no_death = all_same documents
delivered_stay documents (Some (reports.Done job (outcomes.Populated slot) made)) no_death =
    all_on job.doc (λ d. record d { is_ready = true; is_fresh = true }) documents (λ d. refl) (λ d. record { nav = refl; state = refl; ready = λ e. refl; discarded = refl; known = refl })
delivered_stay documents (Some (reports.Done job outcomes.Activated made)) no_death = all_same documents
delivered_stay documents (Some (reports.Done job outcomes.Updated made)) no_death = all_same documents
delivered_stay documents (Some (reports.Done job outcomes.Frozen made)) no_death = all_same documents
delivered_stay documents (Some (reports.Done job outcomes.Discarded made)) no_death = all_same documents
delivered_stay documents (Some (reports.Done job (outcomes.Asked verdict) made)) no_death = all_same documents
delivered_stay documents (Some (reports.Done job outcomes.Fragmented made)) no_death = all_same documents

arrived_lasts : (s : Seen) (job : Job) (o : Option Document) → KeepLasts s.places (option_map_or (λ (d : Document). on_place d.nav (place_arrived job) s.places) o s.places)
arrived_lasts s job None = same_lasts s.places
arrived_lasts s job (Some d) =
    lasts_mapped (λ (p : Place). cond (p.nav.0 == d.nav.0) (place_arrived job p) p) s.places (if_last (λ (p : Place). p.nav.0 == d.nav.0) (place_arrived job) (record { nav = λ p. refl; last = λ p. refl }))

delivered_lasts : (s : Seen) (o : Option Report) → NoDeath o → KeepLasts s.places (places_delivered s o)
delivered_lasts s None no_death = same_lasts s.places
delivered_lasts s (Some (reports.Died death)) never = absurd never
delivered_lasts s (Some (reports.Made made)) no_death = same_lasts s.places
delivered_lasts s (Some (reports.Done job outcome made)) no_death = by_task job.task
  where
    by_task : (task : Task) → KeepLasts s.places (places_delivered s (Some (reports.Done (record job { task = task }) outcome made)))
    by_task (tasks.Activate entry epoch length index memo address) = arrived_lasts s job (document_of s job.doc)
    by_task (tasks.Populate nav state address initial) = same_lasts s.places
    by_task (tasks.Update length index) = same_lasts s.places
    by_task tasks.Freeze = same_lasts s.places
    by_task tasks.Discard = same_lasts s.places
    by_task (tasks.Ask slot cause) = same_lasts s.places
    by_task (tasks.DoFragment req mode address) = same_lasts s.places

delivered_same : (s : Seen) (o : Option Report) → NoDeath o → kept_delivered s o ≡ s.kept
delivered_same s None no_death = refl
delivered_same s (Some (reports.Died death)) never = absurd never
delivered_same s (Some (reports.Made made)) no_death = refl
delivered_same s (Some (reports.Done job outcome made)) no_death = refl

-- ---- the rows

module _ (s : Seen) (event : ℕ) (actor : Actor) (are : AreKeptDocs s) where
  abbrev then_ : RowKind → Seen
  then_ kind = after s (record { event = event; actor = actor; row = kind })

  unread : (kind : RowKind) → (then_ kind).kept ≡ s.kept → (then_ kind).documents ≡ s.documents → (then_ kind).places ≡ s.places → AreKeptDocs (then_ kind)
  unread kind same documents places =
      left_kept s (then_ kind) same (subst (λ (l : List Document). AllStayIn s.documents l) (sym documents) (all_same s.documents)) (subst (λ (l : List Place). KeepLasts s.places l) (sym places) (same_lasts s.places)) are

  pub left_rows : (kind : RowKind) → LeavesHomes kind → AreKeptDocs (then_ kind)
  left_rows (rows.Opened entry state doc proc slot address) never = absurd never
  left_rows (rows.Accepted req doc what) leaves = unread (rows.Accepted req doc what) refl refl refl
  left_rows (rows.Started req goal) leaves = unread (rows.Started req goal) refl refl refl
  left_rows (rows.Applied req change) never = absurd never
  left_rows (rows.Refused req reason) leaves = unread (rows.Refused req reason) refl refl refl
  left_rows (rows.Dropped req cause) leaves = unread (rows.Dropped req cause) refl refl refl
  left_rows (rows.Sent job) never = absurd never
  left_rows (rows.Taken proc job live dirty) leaves = unread (rows.Taken proc job live dirty) refl refl refl
  left_rows (rows.Finished proc job outcome) leaves =
      left_kept s (then_ (rows.Finished proc job outcome)) refl (finished_stay s.documents (task_in_hand s proc) outcome) (same_lasts s.places) are
  left_rows (rows.Made proc made) leaves =
      left_kept s (then_ (rows.Made proc made)) refl (all_on made.doc (λ d. record d { view = option_map (λ (view : View). after_made view made.what) d.view }) s.documents (λ d. refl) (λ d. kept d (record d { view = option_map (λ (view : View). after_made view made.what) d.view }) refl refl refl refl refl)) (same_lasts s.places) are
  left_rows (rows.Delivered proc) never = absurd never
  left_rows (rows.Prompted req doc) leaves = unread (rows.Prompted req doc) refl refl refl
  left_rows (rows.Answered req stay) leaves = unread (rows.Answered req stay) refl refl refl
  left_rows (rows.Killed proc death) leaves =
      left_kept s (then_ (rows.Killed proc death)) refl (all_mapped killed s.documents (λ d. number d (d.proc.0 == proc.0 && is_none d.dead_by)) (λ d. keeps d (d.proc.0 == proc.0 && is_none d.dead_by))) (same_lasts s.places) are
    where
      killed : Document → Document
      killed d = cond (d.proc.0 == proc.0 && is_none d.dead_by) (record d { dead_by = Some death; view = None }) d

      number : (d : Document) (b : Bool) → (let x : Document = cond b (record d { dead_by = Some death; view = None }) d in x).nr.0 ≡ d.nr.0
      number d true = refl
      number d false = refl

      keeps : (d : Document) (b : Bool) → KeepsHome d (cond b (record d { dead_by = Some death; view = None }) d)
      keeps d true = kept d (record d { dead_by = Some death; view = None }) refl refl refl refl refl
      keeps d false = kept d d refl refl refl refl refl
  left_rows (rows.Evicted state) leaves = unread (rows.Evicted state) refl refl refl

  pub delivered_kept : (proc : ProcId) → NoDeath (slice_get (desk_of s proc).reports 0) → AreKeptDocs (then_ (rows.Delivered proc))
  delivered_kept proc no_death =
      let report = slice_get (desk_of s proc).reports 0 in
      left_kept s (then_ (rows.Delivered proc)) (delivered_same s report no_death) (delivered_stay s.documents report no_death) (delivered_lasts s report no_death) are

-- as the tab opens nothing is kept, and its navigable was shown its document
pub opened_kept : (event : ℕ) (actor : Actor) (entry : EntryId) (state : StateId) (doc : DocId) (proc : ProcId) (slot : Option ℕ) (address : List ℕ) → AreKeptDocs (after nothing (record { event = event; actor = actor; row = rows.Opened entry state doc proc slot address }))
opened_kept event actor entry state doc proc slot address =
    record {
      each = λ other has. absurd has;
      apart = tt;
      lasts = top;
    }
  where
    opened : Seen
    opened = after nothing (record { event = event; actor = actor; row = rows.Opened entry state doc proc slot address })

    top : (nav : NavId) (place : Place) (other : DocId) → place_of opened nav ≡ Some place → place.last ≡ Some other → IsMadeFor opened.documents nav other
    top nav place other there last = by_nav (0 == nav.0) refl there
      where
        by_nav : (b : Bool) → (0 == nav.0) ≡ b → (let o : Option Place = cond b (Some (opening_place entry doc)) None in o) ≡ Some place → IsMadeFor opened.documents nav other
        by_nav true e f =
            let same : opening_place entry doc ≡ place = cc in
            let docs : Some doc ≡ Some other = ap (λ (p : Place). p.last) same ∙ last in
            let one : doc ≡ other = cc in
            let number : 0 ≡ nav.0 = eqb-true 0 nav.0 e in
            subst (λ (d : DocId). IsMadeFor opened.documents nav d) one (record { d = opening_document entry state doc proc slot address; found = rw (nat_eq_refl doc.0) refl; nav_is = number; ready = refl })
        by_nav false e f = absurd cc
