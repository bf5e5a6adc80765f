-- A document that is gone stays gone, whatever row follows.
use Rattle.std.proofs.Common.{◌≡◌, ℕ, Bool, true, false, cond, ◌||◌, ◌==◌, List, [], ◌∷◌, ◌++◌, map, slice_get, Option, Some, None, refl, sym, ap, ◌∙◌, subst}
use Rattle.std.specs.Prelude.{fold, take_while, option_map}
use Rattle.std.proofs.lemmas.List.Sums.{take_while-cons}
use Rattle.tab_ids.specs.declared.DocId.{DocId}
use Rattle.log_model.specs.declared.change.Change.{Change}
use Rattle.log_model.specs.declared.change.Change.TheVariants as changes
use Rattle.log_model.specs.declared.job.Job.{Job}
use Rattle.log_model.specs.declared.job.Task.{Task}
use Rattle.log_model.specs.declared.job.Task.TheVariants as tasks
use Rattle.log_model.specs.declared.made.Report.{Report}
use Rattle.log_model.specs.declared.made.Report.TheVariants as reports
use Rattle.log_model.specs.declared.outcome.Outcome.TheVariants as outcomes
use Rattle.log_model.specs.declared.row_kind.Actor.{Actor}
use Rattle.log_model.specs.declared.row_kind.LogRow.{LogRow}
use Rattle.log_model.specs.declared.row_kind.RowKind.{RowKind}
use Rattle.log_model.specs.declared.row_kind.RowKind.TheVariants as rows
use Rattle.log_model.specs.Equal.{holds}
use Rattle.log_model.specs.Seen.{Seen, Document, desk_of}
use Rattle.log_model.specs.After.{after}
use Rattle.log_model.specs.AfterPlaces.{is_dead_by}
use Rattle.log_model.specs.AfterDocuments.{on_document, addressed, applied_to, told_after_change, new_document, documents_sent, documents_delivered}
use Rattle.log_model.specs.Places.{is_gone}
use Rattle.log_model.specs.Checks.{is_of_run}
use Rattle.seen_laws.proofs.Keyed.{find_map}
use Rattle.seen_facts.specs.Home.Homes.{document_in}
use Rattle.seen_facts.proofs.Walk.Aims.{is_away}
use Rattle.row_facts.proofs.WalkRows.Passed.{StayGone}
use Rattle.check_facts.specs.Prompting.{run_end}
use Rattle.check_facts.specs.Rows.{IsOfCoord}

-- ---- changes of documents

-- of each of them
pub mapped_gone : (f : Document → Document) (documents : List Document) → ((d : Document) → (f d).nr.0 ≡ d.nr.0) → ((d : Document) → is_away d ≡ true → is_away (f d) ≡ true) → StayGone documents (map f documents)
mapped_gone f documents number away doc is =
    ap (holds is_away) (find_map (λ (d : Document). d.nr.0) f doc.0 documents number) ∙ by_found (document_in documents doc) is
  where
    by_found : (o : Option Document) → holds is_away o ≡ true → holds is_away (option_map f o) ≡ true
    by_found None is = is
    by_found (Some d) is = away d is

-- of those that pass a test
pub tested_gone : (test : Document → Bool) (f : Document → Document) (documents : List Document) → ((d : Document) → (f d).nr.0 ≡ d.nr.0) → ((d : Document) → is_away d ≡ true → is_away (f d) ≡ true) → StayGone documents (map (λ (d : Document). cond (test d) (f d) d) documents)
tested_gone test f documents number away =
    mapped_gone (λ (d : Document). cond (test d) (f d) d) documents (λ d. nr d (test d)) (λ d is. stays d (test d) is)
  where
    nr : (d : Document) (b : Bool) → (let x : Document = cond b (f d) d in x).nr.0 ≡ d.nr.0
    nr d true = number d
    nr d false = refl

    stays : (d : Document) (b : Bool) → is_away d ≡ true → is_away (cond b (f d) d) ≡ true
    stays d true is = away d is
    stays d false is = is

-- one more
more_gone : (documents : List Document) (new : Document) → StayGone documents (documents ++ new ∷ [])
more_gone [] new doc is = cc
more_gone (d ∷ documents) new doc is = by_test (d.nr.0 == doc.0) is (more_gone documents new doc)
  where
    by_test : (b : Bool) → holds is_away (cond b (Some d) (document_in documents doc)) ≡ true → (holds is_away (document_in documents doc) ≡ true → holds is_away (document_in (documents ++ new ∷ []) doc) ≡ true) → holds is_away (cond b (Some d) (document_in (documents ++ new ∷ []) doc)) ≡ true
    by_test true is more = is
    by_test false is more = more is

or_true : (b : Bool) → (b || true) ≡ true
or_true true = refl
or_true false = refl

-- ---- rows

on_gone : (doc : DocId) (f : Document → Document) (documents : List Document) → ((d : Document) → (f d).nr.0 ≡ d.nr.0) → ((d : Document) → is_away d ≡ true → is_away (f d) ≡ true) → StayGone documents (on_document doc f documents)
on_gone doc f documents number away = tested_gone (λ (d : Document). d.nr.0 == doc.0) f documents number away

-- an order
sent_gone : (s : Seen) (job : Job) (task : Task) → StayGone s.documents (documents_sent s job task)
sent_gone s job (tasks.Populate nav state address initial) = more_gone s.documents (new_document s job nav state)
sent_gone s job tasks.Discard = on_gone job.doc (λ d. record d { is_discarded = true }) s.documents (λ d. refl) (λ d is. refl)
sent_gone s job tasks.Freeze = on_gone job.doc (addressed tasks.Freeze) s.documents (λ d. refl) (λ d is. is)
sent_gone s job (tasks.Activate entry epoch length index memo address) =
    on_gone job.doc (addressed (tasks.Activate entry epoch length index memo address)) s.documents (λ d. refl) (λ d is. is)
sent_gone s job (tasks.Update length index) =
    on_gone job.doc (addressed (tasks.Update length index)) s.documents (λ d. refl) (λ d is. is)
sent_gone s job (tasks.Ask slot cause) =
    on_gone job.doc (addressed (tasks.Ask slot cause)) s.documents (λ d. refl) (λ d is. is)
sent_gone s job (tasks.DoFragment req mode address) =
    on_gone job.doc (addressed (tasks.DoFragment req mode address)) s.documents (λ d. refl) (λ d is. is)

-- a change, of one document
pub applied_one : (change : Change) (d : Document) → ((applied_to change (told_after_change d change)).nr.0 ≡ d.nr.0) × (is_away (applied_to change (told_after_change d change)) ≡ is_away d)
applied_one (changes.Push nav entry state address memo) d = by_test (d.nr.0 == entry.maker) refl
  where
    by_test : (b : Bool) → (d.nr.0 == entry.maker) ≡ b → ((applied_to (changes.Push nav entry state address memo) (told_after_change d (changes.Push nav entry state address memo))).nr.0 ≡ d.nr.0) × (is_away (applied_to (changes.Push nav entry state address memo) (told_after_change d (changes.Push nav entry state address memo))) ≡ is_away d)
    by_test true e = (rw e (rw e refl), rw e (rw e refl))
    by_test false e = (rw e (rw e refl), rw e (rw e refl))
applied_one (changes.Replace nav over entry state address memo) d = by_test (d.nr.0 == entry.maker) refl
  where
    by_test : (b : Bool) → (d.nr.0 == entry.maker) ≡ b → ((applied_to (changes.Replace nav over entry state address memo) d).nr.0 ≡ d.nr.0) × (is_away (applied_to (changes.Replace nav over entry state address memo) d) ≡ is_away d)
    by_test true e = (rw e refl, rw e refl)
    by_test false e = (rw e refl, rw e refl)
applied_one (changes.Reload nav) d = by_test (d.nav.0 == nav.0) refl
  where
    by_test : (b : Bool) → (d.nav.0 == nav.0) ≡ b → ((applied_to (changes.Reload nav) d).nr.0 ≡ d.nr.0) × (is_away (applied_to (changes.Reload nav) d) ≡ is_away d)
    by_test true e = (rw e refl, rw e refl)
    by_test false e = (rw e refl, rw e refl)
applied_one (changes.AddFrame owner nav entry state) d = (refl, refl)
applied_one (changes.RemoveFrame nav) d = (refl, refl)
applied_one (changes.Traverse goal) d = (refl, refl)
applied_one changes.Edit d = (refl, refl)

applied_gone : (change : Change) (documents : List Document) → StayGone documents (map (λ d. applied_to change (told_after_change d change)) documents)
applied_gone change documents =
    mapped_gone (λ d. applied_to change (told_after_change d change)) documents (λ d. (applied_one change d).0) (λ d is. (applied_one change d).1 ∙ is)

-- a report
delivered_gone : (documents : List Document) (report : Option Report) → StayGone documents (documents_delivered documents report)
delivered_gone documents None doc is = is
delivered_gone documents (Some (reports.Made made)) doc is = is
delivered_gone documents (Some (reports.Died death)) doc is =
    tested_gone (is_dead_by death) (λ d. record d { is_known_dead = true }) documents (λ d. refl) (λ d was. or_true d.is_discarded) doc is
delivered_gone documents (Some (reports.Done job (outcomes.Populated slot) made)) doc is =
    on_gone job.doc (λ d. record d { is_ready = true; is_fresh = true }) documents (λ d. refl) (λ d was. was) doc is
delivered_gone documents (Some (reports.Done job outcomes.Activated made)) doc is = is
delivered_gone documents (Some (reports.Done job outcomes.Updated made)) doc is = is
delivered_gone documents (Some (reports.Done job outcomes.Frozen made)) doc is = is
delivered_gone documents (Some (reports.Done job outcomes.Discarded made)) doc is = is
delivered_gone documents (Some (reports.Done job (outcomes.Asked verdict) made)) doc is = is
delivered_gone documents (Some (reports.Done job outcomes.Fragmented made)) doc is = is

-- a row of the coordinator leaves gone who was
pub row_gone : (s : Seen) (event : ℕ) (actor : Actor) (kind : RowKind) → IsOfCoord kind → (doc : DocId) → is_gone s doc ≡ true → is_gone (after s (record { event = event; actor = actor; row = kind })) doc ≡ true
row_gone s event actor (rows.Accepted req doc what) is other gone = gone
row_gone s event actor (rows.Started req goal) is other gone = gone
row_gone s event actor (rows.Applied req change) is other gone = applied_gone change s.documents other gone
row_gone s event actor (rows.Refused req reason) is other gone = gone
row_gone s event actor (rows.Dropped req cause) is other gone = gone
row_gone s event actor (rows.Prompted req doc) is other gone = gone
row_gone s event actor (rows.Answered req stay) is other gone = gone
row_gone s event actor (rows.Sent job) is other gone = sent_gone s job job.task other gone
row_gone s event actor (rows.Delivered proc) is other gone =
    delivered_gone s.documents (slice_get (desk_of s proc).reports 0) other gone
row_gone s event actor (rows.Evicted state) is other gone = gone
row_gone s event actor _ is other gone = elim is [ ]

-- ---- a run

of_coord : (kind : RowKind) (event : ℕ) (actor : Actor) → is_of_run (record { event = event; actor = actor; row = kind }) ≡ true → IsOfCoord kind
of_coord (rows.Sent job) event actor is = tt
of_coord (rows.Prompted req doc) event actor is = tt
of_coord _ event actor is = cc

-- a run leaves gone who was
pub run_gone : (s : Seen) (later : List LogRow) (doc : DocId) → is_gone s doc ≡ true → is_gone (run_end s later) doc ≡ true
run_gone s [] doc gone = gone
run_gone s (row ∷ later) doc gone =
    subst (λ (rows : List LogRow). is_gone (fold after s rows) doc ≡ true) (sym (take_while-cons is_of_run row later)) (by_test (is_of_run row) refl (run_gone (after s row) later doc))
  where
    by_test : (b : Bool) → is_of_run row ≡ b → (is_gone (after s row) doc ≡ true → is_gone (run_end (after s row) later) doc ≡ true) → is_gone (fold after s (cond b (row ∷ take_while is_of_run later) [])) doc ≡ true
    by_test true e more = more (row_gone s row.event row.actor row.row (of_coord row.row row.event row.actor e) doc gone)
    by_test false e more = gone
