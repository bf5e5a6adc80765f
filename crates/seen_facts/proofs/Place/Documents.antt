-- The document state of each document stays from row to row.
use Rattle.std.proofs.Common.{◌≡◌, Bool, true, false, cond, ◌&&◌, ◌==◌, List, [], ◌∷◌, ◌++◌, map, Option, Some, None, refl, ap, ◌∙◌}
use Rattle.std.specs.Prelude.{is_none, option_map, slice_get}
use Rattle.tab_ids.specs.declared.DocId.{DocId}
use Rattle.tab_ids.specs.declared.EntryId.{EntryId}
use Rattle.tab_ids.specs.declared.StateId.{StateId}
use Rattle.log_model.specs.declared.change.Change.{Change}
use Rattle.log_model.specs.declared.change.Change.TheVariants as changes
use Rattle.log_model.specs.declared.job.Job.{Job}
use Rattle.log_model.specs.declared.job.Task.{Task}
use Rattle.log_model.specs.declared.job.Task.TheVariants as tasks
use Rattle.log_model.specs.declared.made.Report.{Report}
use Rattle.log_model.specs.declared.made.Report.TheVariants as reports
use Rattle.log_model.specs.declared.outcome.Outcome.{Outcome}
use Rattle.log_model.specs.declared.outcome.Outcome.TheVariants as outcomes
use Rattle.log_model.specs.declared.row_kind.RowKind.{RowKind}
use Rattle.log_model.specs.declared.row_kind.RowKind.TheVariants as rows
use Rattle.log_model.specs.AfterDocuments.{addressed, applied_to, documents_after, documents_delivered, documents_finished, documents_sent, on_document, slot_finished, task_in_hand, told_after_change, view_finished, with_applied}
use Rattle.log_model.specs.AfterPlaces.{is_dead_by}
use Rattle.log_model.specs.Seen.{Seen, Document, desk_of}
use Rattle.log_model.specs.Views.{View, after_made}
use Rattle.seen_facts.specs.Home.Homes.{document_in}
use Rattle.seen_laws.proofs.Keyed.{find_map}

-- the document state of the document with a number
abbrev pub state_in : List Document → DocId → Option StateId
state_in documents doc = option_map (λ (d : Document). d.state) (document_in documents doc)

-- each stays
abbrev pub KeepStates : List Document → List Document → Type 0
KeepStates old new = (doc : DocId) → state_in new doc ≡ state_in old doc

-- a change that leaves a document's number and its state
record KeepsState (g : Document → Document) : Type 0 where
  nr : (d : Document) → (g d).nr ≡ d.nr
  state : (d : Document) → (g d).state ≡ d.state

states_mapped : (g : Document → Document) (documents : List Document) → KeepsState g → KeepStates documents (map g documents)
states_mapped g documents keeps doc =
    ap (λ (o : Option Document). option_map (λ (d : Document). d.state) o) (find_map (λ (d : Document). d.nr.0) g doc.0 documents (λ d. ap (λ (n : DocId). n.0) (keeps.nr d)))
    ∙ by_found (document_in documents doc)
  where
    by_found : (o : Option Document) → option_map (λ (d : Document). d.state) (option_map g o) ≡ option_map (λ (d : Document). d.state) o
    by_found None = refl
    by_found (Some d) = ap (λ (x : StateId). Some x) (keeps.state d)

keeps_if : (test : Document → Bool) (f : Document → Document) → KeepsState f → KeepsState (λ (d : Document). cond (test d) (f d) d)
keeps_if test f keeps =
    record {
      nr = λ d. elim (test d) as (λ b. (let x : Document = cond b (f d) d in x).nr ≡ d.nr) [ true ↦ keeps.nr d | false ↦ refl ];
      state = λ d. elim (test d) as (λ b. (let x : Document = cond b (f d) d in x).state ≡ d.state) [ true ↦ keeps.state d | false ↦ refl ];
    }

states_on : (doc : DocId) (f : Document → Document) (documents : List Document) → KeepsState f → KeepStates documents (on_document doc f documents)
states_on doc f documents keeps =
    states_mapped (λ (d : Document). cond (d.nr.0 == doc.0) (f d) d) documents (keeps_if (λ (d : Document). d.nr.0 == doc.0) f keeps)

-- a document more leaves those of other numbers
pub others_stay : (documents : List Document) (new : Document) (doc : DocId) → (new.nr.0 == doc.0) ≡ false → state_in (documents ++ new ∷ []) doc ≡ state_in documents doc
others_stay documents new doc apart = ap (λ (o : Option Document). option_map (λ (d : Document). d.state) o) (found documents)
  where
    found : (l : List Document) → document_in (l ++ new ∷ []) doc ≡ document_in l doc
    found [] = rw apart refl
    found (d ∷ l) = ap (λ (o : Option Document). cond (d.nr.0 == doc.0) (Some d) o) (found l)

-- ---- the rows

finished_states : (documents : List Document) (hand : Option Job) (outcome : Outcome) → KeepStates documents (slot_finished (documents_finished documents hand) hand outcome)
finished_states documents None outcome = λ doc. refl
finished_states documents (Some job) outcome = by_outcome outcome
  where
    viewed : KeepStates documents (documents_finished documents (Some job))
    viewed = states_on job.doc (λ (d : Document). record d { view = view_finished d job.task }) documents (record { nr = λ d. refl; state = λ d. refl })

    by_outcome : (u : Outcome) → KeepStates documents (slot_finished (documents_finished documents (Some job)) (Some job) u)
    by_outcome (outcomes.Populated slot) =
        λ doc. states_on job.doc (λ (d : Document). record d { slot = slot }) (documents_finished documents (Some job)) (record { nr = λ d. refl; state = λ d. refl }) doc ∙ viewed doc
    by_outcome outcomes.Activated = viewed
    by_outcome outcomes.Updated = viewed
    by_outcome outcomes.Frozen = viewed
    by_outcome outcomes.Discarded = viewed
    by_outcome (outcomes.Asked verdict) = viewed
    by_outcome outcomes.Fragmented = viewed

delivered_states : (documents : List Document) (report : Option Report) → KeepStates documents (documents_delivered documents report)
delivered_states documents None = λ doc. refl
delivered_states documents (Some (reports.Died death)) =
    states_mapped (λ (d : Document). cond (is_dead_by death d) (record d { is_known_dead = true }) d) documents (keeps_if (is_dead_by death) (λ (d : Document). record d { is_known_dead = true }) (record { nr = λ d. refl; state = λ d. refl }))
delivered_states documents (Some (reports.Made made)) = λ doc. refl
delivered_states documents (Some (reports.Done job (outcomes.Populated slot) made)) =
    states_on job.doc (λ (d : Document). record d { is_ready = true; is_fresh = true }) documents (record { nr = λ d. refl; state = λ d. refl })
delivered_states documents (Some (reports.Done job outcomes.Activated made)) = λ doc. refl
delivered_states documents (Some (reports.Done job outcomes.Updated made)) = λ doc. refl
delivered_states documents (Some (reports.Done job outcomes.Frozen made)) = λ doc. refl
delivered_states documents (Some (reports.Done job outcomes.Discarded made)) = λ doc. refl
delivered_states documents (Some (reports.Done job (outcomes.Asked verdict) made)) = λ doc. refl
delivered_states documents (Some (reports.Done job outcomes.Fragmented made)) = λ doc. refl

-- the order makes no document
abbrev pub MakesNone : Task → Type 0
MakesNone (tasks.Populate nav state address initial) = ⊥
MakesNone _ = Unit {0}

addressed_states : (documents : List Document) (doc : DocId) (task : Task) → KeepStates documents (on_document doc (addressed task) documents)
addressed_states documents doc task = states_on doc (addressed task) documents (record { nr = λ d. refl; state = λ d. refl })

sent_states : (s : Seen) (job : Job) (task : Task) → MakesNone task → KeepStates s.documents (documents_sent s job task)
sent_states s job (tasks.Populate nav state address initial) never = absurd never
sent_states s job tasks.Discard none =
    states_on job.doc (λ (d : Document). record d { is_discarded = true }) s.documents (record { nr = λ d. refl; state = λ d. refl })
sent_states s job (tasks.Activate entry epoch length index memo address) none =
    addressed_states s.documents job.doc (tasks.Activate entry epoch length index memo address)
sent_states s job (tasks.Update length index) none = addressed_states s.documents job.doc (tasks.Update length index)
sent_states s job tasks.Freeze none = addressed_states s.documents job.doc tasks.Freeze
sent_states s job (tasks.Ask slot cause) none = addressed_states s.documents job.doc (tasks.Ask slot cause)
sent_states s job (tasks.DoFragment req mode address) none = addressed_states s.documents job.doc (tasks.DoFragment req mode address)

same_document : KeepsState (λ (d : Document). d)
same_document = record { nr = λ d. refl; state = λ d. refl }

numbered : (entry : EntryId) → KeepsState (with_applied entry)
numbered entry =
    keeps_if (λ (d : Document). d.nr.0 == entry.maker) (λ (d : Document). record d { last_applied = entry.nr }) (record { nr = λ d. refl; state = λ d. refl })

told_keeps : (c : Change) → KeepsState (λ (d : Document). told_after_change d c)
told_keeps (changes.Push nav entry state address memo) =
    keeps_if (λ (d : Document). d.nr.0 == entry.maker) (λ (d : Document). record d { told = None }) (record { nr = λ d. refl; state = λ d. refl })
told_keeps (changes.Replace nav over entry state address memo) = same_document
told_keeps (changes.AddFrame owner nav entry state) = same_document
told_keeps (changes.RemoveFrame nav) = same_document
told_keeps (changes.Traverse goal) = same_document
told_keeps (changes.Reload nav) = same_document
told_keeps changes.Edit = same_document

change_keeps : (c : Change) → KeepsState (applied_to c)
change_keeps (changes.Push nav entry state address memo) = numbered entry
change_keeps (changes.Replace nav over entry state address memo) = numbered entry
change_keeps (changes.AddFrame owner nav entry state) = same_document
change_keeps (changes.RemoveFrame nav) = same_document
change_keeps (changes.Traverse goal) = same_document
change_keeps (changes.Reload nav) =
    keeps_if (λ (d : Document). d.nav.0 == nav.0) (λ (d : Document). record d { is_fresh = false }) (record { nr = λ d. refl; state = λ d. refl })
change_keeps changes.Edit = same_document

-- the row brings no document
abbrev pub BringsNone : RowKind → Type 0
BringsNone (rows.Opened entry state doc proc slot address) = ⊥
BringsNone (rows.Sent job) = MakesNone job.task
BringsNone _ = Unit {0}

-- so it leaves the document state of each
pub states_stay : (s : Seen) (kind : RowKind) → BringsNone kind → KeepStates s.documents (documents_after s kind)
states_stay s (rows.Opened entry state doc proc slot address) never = absurd never
states_stay s (rows.Accepted req doc what) none = λ doc_. refl
states_stay s (rows.Started req goal) none = λ doc. refl
states_stay s (rows.Applied req change) none =
    states_mapped (λ (d : Document). applied_to change (told_after_change d change)) s.documents (record {
      nr = λ d. (change_keeps change).nr (told_after_change d change) ∙ (told_keeps change).nr d;
      state = λ d. (change_keeps change).state (told_after_change d change) ∙ (told_keeps change).state d;
    })
states_stay s (rows.Refused req reason) none = λ doc. refl
states_stay s (rows.Dropped req cause) none = λ doc. refl
states_stay s (rows.Sent job) none = sent_states s job job.task none
states_stay s (rows.Taken proc job live dirty) none = λ doc. refl
states_stay s (rows.Finished proc job outcome) none = finished_states s.documents (task_in_hand s proc) outcome
states_stay s (rows.Made proc made) none =
    states_on made.doc (λ d. record d { view = option_map (λ (view : View). after_made view made.what) d.view }) s.documents (record { nr = λ d. refl; state = λ d. refl })
states_stay s (rows.Delivered proc) none = delivered_states s.documents (slice_get (desk_of s proc).reports 0)
states_stay s (rows.Prompted req doc) none = λ doc_. refl
states_stay s (rows.Answered req stay) none = λ doc. refl
states_stay s (rows.Killed proc death) none =
    states_mapped (λ (d : Document). cond (d.proc.0 == proc.0 && is_none d.dead_by) (record d { dead_by = Some death; view = None }) d) s.documents (keeps_if (λ (d : Document). d.proc.0 == proc.0 && is_none d.dead_by) (λ (d : Document). record d { dead_by = Some death; view = None }) (record { nr = λ d. refl; state = λ d. refl }))
states_stay s (rows.Evicted state) none = λ doc. refl
