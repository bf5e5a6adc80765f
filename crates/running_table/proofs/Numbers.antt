-- The documents are numbered in the order in which they join: each row leaves it so, and so they stand in the order of their numbers.
use Rattle.std.proofs.Common.{◌≡◌, ℕ, ◌+◌, Bool, true, false, ◌&&◌, ◌==◌, List, [], ◌∷◌, ◌++◌, length, map, Option, Some, None, refl, ◌∙◌, arith}
use Rattle.std.specs.Prelude.{is_none, option_map, slice_get, if◌then◌else◌}
use Rattle.std.proofs.lemmas.Bool.Decides.{nat_tests}
use Rattle.tab_ids.specs.declared.DocId.{DocId}
use Rattle.log_model.specs.declared.job.Job.{Job}
use Rattle.log_model.specs.declared.job.Task.{Task}
use Rattle.log_model.specs.declared.job.Task.TheVariants as tasks
use Rattle.log_model.specs.declared.made.Report.{Report}
use Rattle.log_model.specs.declared.made.Report.TheVariants as reports
use Rattle.log_model.specs.declared.outcome.Outcome.{Outcome}
use Rattle.log_model.specs.declared.outcome.Outcome.TheVariants as outcomes
use Rattle.log_model.specs.declared.row_kind.Actor.{Actor}
use Rattle.log_model.specs.declared.row_kind.RowKind.{RowKind}
use Rattle.log_model.specs.declared.row_kind.RowKind.TheVariants as rows
use Rattle.log_model.specs.After.{after}
use Rattle.log_model.specs.AfterDocuments.{addressed, applied_to, documents_after, documents_delivered, documents_finished, documents_sent, new_document, on_document, slot_finished, task_in_hand, told_after_change, view_finished}
use Rattle.log_model.specs.AfterPlaces.{is_dead_by}
use Rattle.log_model.specs.Orders.{is_addressed}
use Rattle.log_model.specs.Seen.{Seen, Document, desk_of, nothing}
use Rattle.log_model.specs.Views.{after_made}
use Rattle.running_table.specs.Telling.{AddsNext, AreInOrder, AreNumbered, AscendFrom, MakesNext, NumberedFrom}
use Rattle.running_table.proofs.Poked.{ascend_less}
use Rattle.running_table.proofs.Rows.{change_as}

-- ---- the order of the numbers

ascend_numbered : (next : ℕ) (documents : List Document) → NumberedFrom next documents → AscendFrom next documents
ascend_numbered next [] numbered = tt
ascend_numbered next (d ∷ documents) numbered =
    (omega (arith, numbered.0), ascend_less (d.nr.0 + 1) (next + 1) documents (omega (arith, numbered.0)) (ascend_numbered (next + 1) documents numbered.1))

pub numbered_in_order : (s : Seen) → AreNumbered s → AreInOrder s
numbered_in_order s numbered = ascend_less 0 1 s.documents (omega arith) (ascend_numbered 1 s.documents numbered)

-- ---- changes that keep the numbers

numbered_map : (g : Document → Document) → ((d : Document) → (g d).nr.0 ≡ d.nr.0) → (next : ℕ) (documents : List Document) → NumberedFrom next documents → NumberedFrom next (map g documents)
numbered_map g same next [] numbered = tt
numbered_map g same next (d ∷ documents) numbered =
    (same d ∙ numbered.0, numbered_map g same (next + 1) documents numbered.1)

same_if : (b : Bool) (d x : Document) → x.nr.0 ≡ d.nr.0 → (let y : Document = if b then x else d in y).nr.0 ≡ d.nr.0
same_if true d x same = same
same_if false d x same = refl

numbered_on : (doc : DocId) (f : Document → Document) → ((d : Document) → (f d).nr.0 ≡ d.nr.0) → (documents : List Document) → NumberedFrom 1 documents → NumberedFrom 1 (on_document doc f documents)
numbered_on doc f same documents numbered =
    numbered_map (λ d. if d.nr.0 == doc.0 then f d else d) (λ d. same_if (d.nr.0 == doc.0) d (f d) (same d)) 1 documents numbered

numbered_more : (next : ℕ) (documents : List Document) (new : Document) → NumberedFrom next documents → new.nr.0 ≡ length documents + next → NumberedFrom next (documents ++ new ∷ [])
numbered_more next [] new numbered is = (omega (arith, is), tt)
numbered_more next (d ∷ documents) new numbered is =
    (numbered.0, numbered_more (next + 1) documents new numbered.1 (omega (arith, is)))

-- ---- each row

sent_numbered : (s : Seen) (job : Job) (task : Task) → MakesNext s job task → AreNumbered s → NumberedFrom 1 (documents_sent s job task)
sent_numbered s job (tasks.Populate nav state address initial) next numbered =
    numbered_more 1 s.documents (new_document s job nav state) numbered next
sent_numbered s job tasks.Discard next numbered =
    numbered_on job.doc (λ d. record d { is_discarded = true }) (λ d. refl) s.documents numbered
sent_numbered s job (tasks.Activate entry epoch length index memo address) next numbered =
    numbered_on job.doc (addressed (tasks.Activate entry epoch length index memo address)) (λ d. refl) s.documents numbered
sent_numbered s job (tasks.Update length index) next numbered =
    numbered_on job.doc (addressed (tasks.Update length index)) (λ d. refl) s.documents numbered
sent_numbered s job tasks.Freeze next numbered =
    numbered_on job.doc (addressed tasks.Freeze) (λ d. refl) s.documents numbered
sent_numbered s job (tasks.Ask slot cause) next numbered =
    numbered_on job.doc (addressed (tasks.Ask slot cause)) (λ d. refl) s.documents numbered
sent_numbered s job (tasks.DoFragment req mode address) next numbered =
    numbered_on job.doc (addressed (tasks.DoFragment req mode address)) (λ d. refl) s.documents numbered

finished_numbered : (documents : List Document) (job : Option Job) → NumberedFrom 1 documents → NumberedFrom 1 (documents_finished documents job)
finished_numbered documents None numbered = numbered
finished_numbered documents (Some job) numbered =
    numbered_on job.doc (λ d. record d { view = view_finished d job.task }) (λ d. refl) documents numbered

slot_numbered : (documents : List Document) (job : Option Job) (outcome : Outcome) → NumberedFrom 1 documents → NumberedFrom 1 (slot_finished documents job outcome)
slot_numbered documents (Some job) (outcomes.Populated slot) numbered =
    numbered_on job.doc (λ d. record d { slot = slot }) (λ d. refl) documents numbered
slot_numbered documents job outcome numbered = numbered

delivered_numbered : (documents : List Document) (report : Option Report) → NumberedFrom 1 documents → NumberedFrom 1 (documents_delivered documents report)
delivered_numbered documents (Some (reports.Done job (outcomes.Populated slot) made)) numbered =
    numbered_on job.doc (λ d. record d { is_ready = true; is_fresh = true }) (λ d. refl) documents numbered
delivered_numbered documents (Some (reports.Died death)) numbered =
    numbered_map (λ d. if is_dead_by death d then record d { is_known_dead = true } else d) (λ d. same_if (is_dead_by death d) d (record d { is_known_dead = true }) refl) 1 documents numbered
delivered_numbered documents report numbered = numbered

documents_numbered : (s : Seen) (kind : RowKind) → AddsNext s kind → AreNumbered s → NumberedFrom 1 (documents_after s kind)
documents_numbered s (rows.Opened entry state doc proc slot address) next numbered = (next, tt)
documents_numbered s (rows.Applied req change) next numbered =
    numbered_map (λ d. applied_to change (told_after_change d change)) (λ d. (change_as change d).nr) 1 s.documents numbered
documents_numbered s (rows.Sent job) next numbered = sent_numbered s job job.task next numbered
documents_numbered s (rows.Finished proc job outcome) next numbered =
    slot_numbered (documents_finished s.documents (task_in_hand s proc)) (task_in_hand s proc) outcome (finished_numbered s.documents (task_in_hand s proc) numbered)
documents_numbered s (rows.Made proc made) next numbered =
    numbered_on made.doc (λ d. record d { view = option_map (λ view. after_made view made.what) d.view }) (λ d. refl) s.documents numbered
documents_numbered s (rows.Delivered proc) next numbered =
    delivered_numbered s.documents (slice_get (desk_of s proc).reports 0) numbered
documents_numbered s (rows.Killed proc death) next numbered =
    numbered_map (λ d. if d.proc.0 == proc.0 && is_none d.dead_by then record d { dead_by = Some death; view = None } else d) (λ d. same_if (d.proc.0 == proc.0 && is_none d.dead_by) d (record d { dead_by = Some death; view = None }) refl) 1 s.documents numbered
documents_numbered s kind next numbered = numbered

pub nothing_numbered : AreNumbered nothing
nothing_numbered = tt

pub after_numbered : (s : Seen) (event : ℕ) (actor : Actor) (kind : RowKind) → AddsNext s kind → AreNumbered s → AreNumbered (after s (record { event = event; actor = actor; row = kind }))
after_numbered s event actor kind next numbered = documents_numbered s kind next numbered

-- the test of an order's row says so
pub addressed_next : (s : Seen) (job : Job) (task : Task) → is_addressed s job task ≡ true → MakesNext s job task
addressed_next s job (tasks.Populate nav state address initial) e = grind (arith, nat_tests, e)
addressed_next s job (tasks.Activate entry epoch length index memo address) e = tt
addressed_next s job (tasks.Update length index) e = tt
addressed_next s job tasks.Freeze e = tt
addressed_next s job tasks.Discard e = tt
addressed_next s job (tasks.Ask slot cause) e = tt
addressed_next s job (tasks.DoFragment req mode address) e = tt
