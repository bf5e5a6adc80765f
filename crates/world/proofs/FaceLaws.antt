-- The view and the process of a document, which the coordinator's work leaves.
use Rattle.std.proofs.Common.{◌≡◌, Bool, true, false, cond, ◌==◌, List, [], ◌∷◌, ◌++◌, map, find, Option, Some, None, refl, sym, ap, ◌∙◌}
use Rattle.std.specs.Prelude.{option_and_then, option_map, if◌then◌else◌}
use Rattle.tab_ids.specs.declared.DocId.{DocId}
use Rattle.tab_ids.specs.declared.EntryId.{EntryId}
use Rattle.tab_ids.specs.declared.ProcId.{ProcId}
use Rattle.log_model.specs.declared.change.Change.{Change}
use Rattle.log_model.specs.declared.change.Change.TheVariants as changes
use Rattle.log_model.specs.declared.job.Job.{Job}
use Rattle.log_model.specs.declared.job.Task.{Task}
use Rattle.log_model.specs.declared.job.Task.TheVariants as tasks
use Rattle.log_model.specs.declared.made.Report.{Report}
use Rattle.log_model.specs.declared.made.Report.TheVariants as told
use Rattle.log_model.specs.declared.outcome.Outcome.{Outcome}
use Rattle.log_model.specs.declared.outcome.Outcome.TheVariants as outcomes
use Rattle.log_model.specs.declared.row_kind.RowKind.{RowKind}
use Rattle.log_model.specs.declared.row_kind.RowKind.TheVariants as rows
use Rattle.log_model.specs.AfterDocuments.{on_document, told_after_change, with_applied, applied_to, addressed, new_document, documents_sent, documents_delivered, documents_after}
use Rattle.log_model.specs.AfterPlaces.{is_dead_by}
use Rattle.log_model.specs.Formed.{is_work}
use Rattle.log_model.specs.Seen.{Seen, Document}
use Rattle.log_model.specs.Views.{View}
use Rattle.seen_laws.proofs.Keyed.{find_map}

abbrev pub document_in : List Document → DocId → Option Document
document_in documents doc = find (λ (d : Document). d.nr.0 == doc.0) documents

-- its view, and its process
abbrev pub face : Document → Option View × ProcId
face d = (d.view, d.proc)

abbrev pub face_in : List Document → DocId → Option (Option View × ProcId)
face_in documents doc = option_map face (document_in documents doc)

abbrev pub view_found : List Document → DocId → Option View
view_found documents doc = option_and_then (λ (d : Document). d.view) (document_in documents doc)

abbrev pub process_found : List Document → DocId → Option ProcId
process_found documents doc = option_map (λ (d : Document). d.proc) (document_in documents doc)

-- a change of documents that leaves number, view and process
pub record LeavesFaces (f : Document → Document) : Type 0 where
  pub nr : (d : Document) → (f d).nr ≡ d.nr
  pub face : (d : Document) → face (f d) ≡ face d

pub faces_left : (documents : List Document) (doc : DocId) (f : Document → Document) → LeavesFaces f → face_in (map f documents) doc ≡ face_in documents doc
faces_left documents doc f leaves =
    ap (λ (o : Option Document). option_map face o) (find_map (λ (d : Document). d.nr.0) f doc.0 documents (λ d. ap (λ (n : DocId). n.0) (leaves.nr d)))
    ∙ by_found (document_in documents doc)
  where
    by_found : (o : Option Document) → option_map face (option_map f o) ≡ option_map face o
    by_found None = refl
    by_found (Some d) = ap (λ (x : Option View × ProcId). let o : Option (Option View × ProcId) = Some x in o) (leaves.face d)

-- a test before it
pub leaves_if : (test : Document → Bool) (f : Document → Document) → LeavesFaces f → LeavesFaces (λ d. if test d then f d else d)
leaves_if test f leaves =
    record {
      nr = λ d. nr_by d (test d);
      face = λ d. face_by d (test d);
    }
  where
    nr_by : (d : Document) (b : Bool) → (let x : Document = if b then f d else d in x).nr ≡ d.nr
    nr_by d true = leaves.nr d
    nr_by d false = refl

    face_by : (d : Document) (b : Bool) → face (if b then f d else d) ≡ face d
    face_by d true = leaves.face d
    face_by d false = refl

pub leaves_then : (f g : Document → Document) → LeavesFaces f → LeavesFaces g → LeavesFaces (λ d. g (f d))
leaves_then f g first second =
    record { nr = λ d. second.nr (f d) ∙ first.nr d; face = λ d. second.face (f d) ∙ first.face d }

-- documents of which each has the view that it had, or none where it wasn't there, and each that was there has its process
pub record KeepsFaces (old new : List Document) : Type 0 where
  pub views : (doc : DocId) → view_found new doc ≡ view_found old doc
  pub home : (doc : DocId) (proc : ProcId) → process_found old doc ≡ Some proc → process_found new doc ≡ Some proc

pub faces_kept : (old new : List Document) → ((doc : DocId) → face_in new doc ≡ face_in old doc) → KeepsFaces old new
faces_kept old new same =
    record {
      views = λ doc. sym (viewed (document_in new doc)) ∙ (ap (λ (o : Option (Option View × ProcId)). option_and_then (λ (f : Option View × ProcId). f.0) o) (same doc) ∙ viewed (document_in old doc));
      home = λ doc proc there. sym (placed (document_in new doc)) ∙ (ap (λ (o : Option (Option View × ProcId)). option_map (λ (f : Option View × ProcId). f.1) o) (same doc) ∙ (placed (document_in old doc) ∙ there));
    }
  where
    viewed : (o : Option Document) → option_and_then (λ (f : Option View × ProcId). f.0) (option_map face o) ≡ option_and_then (λ (d : Document). d.view) o
    viewed None = refl
    viewed (Some d) = refl

    placed : (o : Option Document) → option_map (λ (f : Option View × ProcId). f.1) (option_map face o) ≡ option_map (λ (d : Document). d.proc) o
    placed None = refl
    placed (Some d) = refl

-- one document more, without a view
more_faces : (documents : List Document) (new : Document) → new.view ≡ None → KeepsFaces documents (documents ++ new ∷ [])
more_faces documents new none =
    record { views = λ doc. more_views documents doc; home = λ doc proc there. more_home documents doc proc there }
  where
    more_views : (ds : List Document) (doc : DocId) → view_found (ds ++ new ∷ []) doc ≡ view_found ds doc
    more_views [] doc =
        elim (new.nr.0 == doc.0) as (λ b. option_and_then (λ (d : Document). d.view) (cond b (Some new) None) ≡ None) [ true ↦ none | false ↦ refl ]
    more_views (d ∷ ds) doc =
        elim (d.nr.0 == doc.0) as (λ b. option_and_then (λ (x : Document). x.view) (cond b (Some d) (document_in (ds ++ new ∷ []) doc)) ≡ option_and_then (λ (x : Document). x.view) (cond b (Some d) (document_in ds doc))) [
          | true ↦ refl
          | false ↦ more_views ds doc
        ]

    more_home : (ds : List Document) (doc : DocId) (proc : ProcId) → process_found ds doc ≡ Some proc → process_found (ds ++ new ∷ []) doc ≡ Some proc
    more_home [] doc proc there = cc
    more_home (d ∷ ds) doc proc there =
        (elim (d.nr.0 == doc.0) as (λ b. option_map (λ (x : Document). x.proc) (cond b (Some d) (document_in ds doc)) ≡ Some proc → option_map (λ (x : Document). x.proc) (cond b (Some d) (document_in (ds ++ new ∷ []) doc)) ≡ Some proc) [
          | true ↦ λ here. here
          | false ↦ λ behind. more_home ds doc proc behind
        ]) there

-- ---- each row

pub told_leaves : (change : Change) → LeavesFaces (λ d. told_after_change d change)
told_leaves (changes.Push nav entry state address memo) =
    leaves_if (λ d. d.nr.0 == entry.maker) (λ d. record d { told = None }) (record { nr = λ d. refl; face = λ d. refl })
told_leaves (changes.Replace nav over_ entry state address memo) = record { nr = λ d. refl; face = λ d. refl }
told_leaves (changes.AddFrame owner nav entry state) = record { nr = λ d. refl; face = λ d. refl }
told_leaves (changes.RemoveFrame nav) = record { nr = λ d. refl; face = λ d. refl }
told_leaves (changes.Traverse goal) = record { nr = λ d. refl; face = λ d. refl }
told_leaves (changes.Reload nav) = record { nr = λ d. refl; face = λ d. refl }
told_leaves changes.Edit = record { nr = λ d. refl; face = λ d. refl }

with_leaves : (entry : EntryId) → LeavesFaces (with_applied entry)
with_leaves entry =
    leaves_if (λ d. d.nr.0 == entry.maker) (λ d. record d { last_applied = entry.nr }) (record { nr = λ d. refl; face = λ d. refl })

pub applied_leaves : (change : Change) → LeavesFaces (applied_to change)
applied_leaves (changes.Push nav entry state address memo) = with_leaves entry
applied_leaves (changes.Replace nav over_ entry state address memo) = with_leaves entry
applied_leaves (changes.Reload nav) =
    leaves_if (λ d. d.nav.0 == nav.0) (λ d. record d { is_fresh = false }) (record { nr = λ d. refl; face = λ d. refl })
applied_leaves (changes.AddFrame owner nav entry state) = record { nr = λ d. refl; face = λ d. refl }
applied_leaves (changes.RemoveFrame nav) = record { nr = λ d. refl; face = λ d. refl }
applied_leaves (changes.Traverse goal) = record { nr = λ d. refl; face = λ d. refl }
applied_leaves changes.Edit = record { nr = λ d. refl; face = λ d. refl }

addressed_face : (s : Seen) (job : Job) (task : Task) (doc : DocId) → face_in (on_document job.doc (addressed task) s.documents) doc ≡ face_in s.documents doc
addressed_face s job task doc =
    faces_left s.documents doc _ (leaves_if (λ d. d.nr.0 == job.doc.0) (addressed task) (record { nr = λ d. refl; face = λ d. refl }))

sent_face : (s : Seen) (job : Job) (task : Task) → KeepsFaces s.documents (documents_sent s job task)
sent_face s job (tasks.Populate nav state address initial) = more_faces s.documents (new_document s job nav state) refl
sent_face s job tasks.Discard =
    faces_kept s.documents _ (λ doc. faces_left s.documents doc _ (leaves_if (λ d. d.nr.0 == job.doc.0) (λ d. record d { is_discarded = true }) (record { nr = λ d. refl; face = λ d. refl })))
sent_face s job (tasks.Activate entry epoch length index memo address) =
    faces_kept s.documents _ (addressed_face s job (tasks.Activate entry epoch length index memo address))
sent_face s job (tasks.Update length index) = faces_kept s.documents _ (addressed_face s job (tasks.Update length index))
sent_face s job tasks.Freeze = faces_kept s.documents _ (addressed_face s job tasks.Freeze)
sent_face s job (tasks.Ask slot cause) = faces_kept s.documents _ (addressed_face s job (tasks.Ask slot cause))
sent_face s job (tasks.DoFragment req mode address) =
    faces_kept s.documents _ (addressed_face s job (tasks.DoFragment req mode address))

pub delivered_face : (documents : List Document) (report : Option Report) (doc : DocId) → face_in (documents_delivered documents report) doc ≡ face_in documents doc
delivered_face documents None doc = refl
delivered_face documents (Some (told.Made made)) doc = refl
delivered_face documents (Some (told.Died death)) doc =
    faces_left documents doc _ (leaves_if (is_dead_by death) (λ d. record d { is_known_dead = true }) (record { nr = λ d. refl; face = λ d. refl }))
delivered_face documents (Some (told.Done job outcome made)) doc = by_outcome outcome
  where
    by_outcome : (outcome : Outcome) → face_in (documents_delivered documents (Some (told.Done job outcome made))) doc ≡ face_in documents doc
    by_outcome (outcomes.Populated slot) =
        faces_left documents doc _ (leaves_if (λ d. d.nr.0 == job.doc.0) (λ d. record d { is_ready = true; is_fresh = true }) (record { nr = λ d. refl; face = λ d. refl }))
    by_outcome outcomes.Activated = refl
    by_outcome outcomes.Updated = refl
    by_outcome outcomes.Frozen = refl
    by_outcome outcomes.Discarded = refl
    by_outcome (outcomes.Asked verdict) = refl
    by_outcome outcomes.Fragmented = refl

-- the coordinator's work
pub work_face : (s : Seen) (kind : RowKind) → is_work kind ≡ true → KeepsFaces s.documents (documents_after s kind)
work_face s (rows.Started req goal) work = faces_kept _ _ (λ doc. refl)
work_face s (rows.Applied req change) work =
    faces_kept s.documents _ (λ doc. faces_left s.documents doc _ (leaves_then (λ d. told_after_change d change) (applied_to change) (told_leaves change) (applied_leaves change)))
work_face s (rows.Refused req reason) work = faces_kept _ _ (λ doc. refl)
work_face s (rows.Dropped req cause) work = faces_kept _ _ (λ doc. refl)
work_face s (rows.Prompted req d) work = faces_kept _ _ (λ doc. refl)
work_face s (rows.Sent job) work = sent_face s job job.task
work_face s (rows.Opened entry state d proc slot address) work = cc
work_face s (rows.Accepted req d what) work = cc
work_face s (rows.Answered req stay) work = cc
work_face s (rows.Taken proc job live dirty) work = cc
work_face s (rows.Finished proc job outcome) work = cc
work_face s (rows.Made proc made) work = cc
work_face s (rows.Delivered proc) work = cc
work_face s (rows.Killed proc death) work = cc
work_face s (rows.Evicted state) work = cc
