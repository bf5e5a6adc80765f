-- The table goes on to say what a log has come to: as the tab opens, and over each row that ends no order and of which no process dies.
use Rattle.std.proofs.Common.{◌≡◌, ℕ, Bool, true, false, cond, ◌&&◌, ◌==◌, List, Option, Some, None, refl, ◌∙◌}
use Rattle.std.specs.Prelude.{option_and_then, option_map, slice_get, if◌then◌else◌}
use Rattle.tab_ids.specs.declared.Death.{Death}
use Rattle.tab_ids.specs.declared.DocId.{DocId}
use Rattle.tab_ids.specs.declared.EntryId.{EntryId}
use Rattle.tab_ids.specs.declared.Epoch.{Epoch}
use Rattle.tab_ids.specs.declared.NavId.{NavId}
use Rattle.tab_ids.specs.declared.ProcId.{ProcId}
use Rattle.tab_ids.specs.declared.StateId.{StateId}
use Rattle.log_model.proofs.Refl.{nat_eq_refl}
use Rattle.log_model.specs.declared.change.Change.{Change}
use Rattle.log_model.specs.declared.change.Change.TheVariants as changes
use Rattle.log_model.specs.declared.job.Job.{Job}
use Rattle.log_model.specs.declared.job.Task.{Task}
use Rattle.log_model.specs.declared.job.Task.TheVariants as tasks
use Rattle.log_model.specs.declared.made.Report.{Report}
use Rattle.log_model.specs.declared.made.Report.TheVariants as reports
use Rattle.log_model.specs.declared.made.What.{What}
use Rattle.log_model.specs.declared.made.What.TheVariants as whats
use Rattle.log_model.specs.declared.outcome.Outcome.TheVariants as outcomes
use Rattle.log_model.specs.declared.row_kind.Actor.{Actor}
use Rattle.log_model.specs.declared.row_kind.RowKind.{RowKind}
use Rattle.log_model.specs.declared.row_kind.RowKind.TheVariants as rows
use Rattle.log_model.specs.After.{after}
use Rattle.log_model.specs.AfterDocuments.{addressed, applied_to, documents_after, documents_delivered, documents_sent, new_document, opening_document, told_after_change, with_applied}
use Rattle.log_model.specs.AfterPlaces.{is_dead_by}
use Rattle.log_model.specs.Seen.{Seen, Document, desk_of, nothing}
use Rattle.log_model.specs.Views.{View, after_made}
use Rattle.running_table.specs.Runners.{RunnersState, Places, Shows, epoch_at, is_that, nav_at, none_there}
use Rattle.running_table.specs.Telling.{AreRunners, IsQuiet, running_under, there_of}
use Rattle.running_table.proofs.Orders.{view_as}
use Rattle.running_table.proofs.Readers.{AreAlike, IsAs, alike_itself, as_itself, joined_alike, mapped_alike, one_alike, still_said}

-- ---- the opening

-- before any row no document is there
pub nothing_runners : AreRunners nothing none_there
nothing_runners = record { whose = λ doc. refl; runs = λ nav doc. refl }

-- the first document is there, in the navigable at the top, and runs under the first epoch
pub opened_runners : (s : Seen) (event : ℕ) (actor : Actor) (entry : EntryId) (state : StateId) (doc : DocId) (proc : ProcId) (slot : Option ℕ) (address : List ℕ) (t t1 t2 : RunnersState) → AreRunners nothing t → Places doc (record { 0 = 0 }) t t1 → Shows doc (record { 0 = 1 }) t1 t2 → AreRunners (after s (record { event = event; actor = actor; row = rows.Opened entry state doc proc slot address })) t2
opened_runners s event actor entry state doc proc slot address t t1 t2 none places shows =
    record { whose = λ of. shows.there of ∙ whose of (doc.0 == of.0) refl; runs = λ nav of. shows.runs nav of ∙ runs nav of (doc.0 == of.0) }
  where
    first : Document
    first = opening_document entry state doc proc slot address

    whose : (of : DocId) (b : Bool) → (doc.0 == of.0) ≡ b → nav_at t1 of ≡ option_and_then there_of (cond (doc.0 == of.0) (Some first) None)
    whose of true e = places.there of ∙ rw e refl
    whose of false e = places.there of ∙ rw e (none.whose of)

    top : nav_at t1 doc ≡ Some (record { 0 = 0 })
    top = places.there doc ∙ rw (nat_eq_refl doc.0) refl

    before : (nav : NavId) (of : DocId) → epoch_at t1 nav of ≡ None
    before nav of = places.runs nav of ∙ none.runs nav of

    by_nav : (nav : NavId) (of : DocId) (c : Bool) → cond (c && true) (Some (let e : Epoch = record { 0 = 1 } in e)) (epoch_at t1 nav of) ≡ (if c && true then Some (let e : Epoch = record { 0 = 1 } in e) else None)
    by_nav nav of true = refl
    by_nav nav of false = before nav of

    none_else : (nav : NavId) (of : DocId) (c : Bool) → cond (c && false) (Some (let e : Epoch = record { 0 = 1 } in e)) (epoch_at t1 nav of) ≡ None
    none_else nav of true = before nav of
    none_else nav of false = before nav of

    runs : (nav : NavId) (of : DocId) (b : Bool) → cond (is_that (nav_at t1 doc) nav && b) (Some (let e : Epoch = record { 0 = 1 } in e)) (epoch_at t1 nav of) ≡ option_and_then (running_under nav) (cond b (Some first) None)
    runs nav of true = rw top (by_nav nav of (0 == nav.0))
    runs nav of false = none_else nav of (is_that (nav_at t1 doc) nav)

-- ---- what a row does to a document

as_through : (a b c : Document) → IsAs a b → IsAs b c → IsAs a c
as_through a b c one two =
    record { nr = two.nr ∙ one.nr; there = two.there ∙ one.there; runs = λ nav. two.runs nav ∙ one.runs nav }

as_if : (b : Bool) (d x : Document) → IsAs d x → IsAs d (if b then x else d)
as_if true d x is = is
as_if false d x is = as_itself d

-- an applied change
pub told_as : (change : Change) (d : Document) → IsAs d (told_after_change d change)
told_as (changes.Push nav entry state address memo) d =
    as_if (d.nr.0 == entry.maker) d (record d { told = None }) (record { nr = refl; there = refl; runs = λ n. refl })
told_as change d = as_itself d

entry_as : (entry : EntryId) (d : Document) → IsAs d (with_applied entry d)
entry_as entry d =
    as_if (d.nr.0 == entry.maker) d (record d { last_applied = entry.nr }) (record { nr = refl; there = refl; runs = λ n. refl })

applied_as : (change : Change) (d : Document) → IsAs d (applied_to change d)
applied_as (changes.Push nav entry state address memo) d = entry_as entry d
applied_as (changes.Replace nav over entry state address memo) d = entry_as entry d
applied_as (changes.Reload nav) d =
    as_if (d.nav.0 == nav.0) d (record d { is_fresh = false }) (record { nr = refl; there = refl; runs = λ n. refl })
applied_as change d = as_itself d

pub change_as : (change : Change) (d : Document) → IsAs d (applied_to change (told_after_change d change))
change_as change d =
    as_through d (told_after_change d change) (applied_to change (told_after_change d change)) (told_as change d) (applied_as change (told_after_change d change))

-- an order is sent
pub addressed_as : (task : Task) (d : Document) → IsAs d (addressed task d)
addressed_as task d = record { nr = refl; there = refl; runs = λ nav. refl }

sent_alike : (s : Seen) (job : Job) (task : Task) → AreAlike s.documents (documents_sent s job task)
sent_alike s job (tasks.Populate nav state address initial) =
    joined_alike s.documents (new_document s job nav state) refl
sent_alike s job tasks.Discard =
    one_alike s.documents job.doc (λ d. record d { is_discarded = true }) (λ d. record { nr = refl; there = refl; runs = λ nav. refl })
sent_alike s job (tasks.Activate entry epoch length index memo address) =
    one_alike s.documents job.doc (addressed (tasks.Activate entry epoch length index memo address)) (addressed_as (tasks.Activate entry epoch length index memo address))
sent_alike s job (tasks.Update length index) =
    one_alike s.documents job.doc (addressed (tasks.Update length index)) (addressed_as (tasks.Update length index))
sent_alike s job tasks.Freeze = one_alike s.documents job.doc (addressed tasks.Freeze) (addressed_as tasks.Freeze)
sent_alike s job (tasks.Ask slot cause) =
    one_alike s.documents job.doc (addressed (tasks.Ask slot cause)) (addressed_as (tasks.Ask slot cause))
sent_alike s job (tasks.DoFragment req mode address) =
    one_alike s.documents job.doc (addressed (tasks.DoFragment req mode address)) (addressed_as (tasks.DoFragment req mode address))

-- a document makes something
made_running : (v : View) (what : What) → (after_made v what).running ≡ v.running
made_running v (whats.Push entry memo address) = refl
made_running v (whats.Replace over entry memo address) = refl
made_running v (whats.AddFrame nav) = refl
made_running v (whats.RemoveFrame nav) = refl
made_running v (whats.Go delta) = refl
made_running v whats.Edit = refl

made_epoch : (v : View) (what : What) → (after_made v what).epoch ≡ v.epoch
made_epoch v (whats.Push entry memo address) = refl
made_epoch v (whats.Replace over entry memo address) = refl
made_epoch v (whats.AddFrame nav) = refl
made_epoch v (whats.RemoveFrame nav) = refl
made_epoch v (whats.Go delta) = refl
made_epoch v whats.Edit = refl

pub made_as : (what : What) (d : Document) → IsAs d (record d { view = option_map (λ view. after_made view what) d.view })
made_as what d = view_as d (λ view. after_made view what) (λ v. made_running v what) (λ v. made_epoch v what)

-- a report is delivered
pub ready_as : (d : Document) → IsAs d (record d { is_ready = true; is_fresh = true })
ready_as d = record { nr = refl; there = refl; runs = λ nav. refl }

pub known_as : (death : Death) (d : Document) → IsAs d (if is_dead_by death d then record d { is_known_dead = true } else d)
known_as death d =
    as_if (is_dead_by death d) d (record d { is_known_dead = true }) (record { nr = refl; there = refl; runs = λ nav. refl })

delivered_alike : (documents : List Document) (report : Option Report) → AreAlike documents (documents_delivered documents report)
delivered_alike documents (Some (reports.Done job (outcomes.Populated slot) made)) =
    one_alike documents job.doc (λ d. record d { is_ready = true; is_fresh = true }) ready_as
delivered_alike documents (Some (reports.Died death)) =
    mapped_alike documents (λ d. if is_dead_by death d then record d { is_known_dead = true } else d) (known_as death)
delivered_alike documents report = alike_itself documents

-- ---- each row but the opening, the end of an order and a death

quiet_alike : (s : Seen) (kind : RowKind) → IsQuiet kind → AreAlike s.documents (documents_after s kind)
quiet_alike s (rows.Opened entry state doc proc slot address) quiet = absurd quiet
quiet_alike s (rows.Finished proc job outcome) quiet = absurd quiet
quiet_alike s (rows.Killed proc death) quiet = absurd quiet
quiet_alike s (rows.Applied req change) quiet =
    mapped_alike s.documents (λ d. applied_to change (told_after_change d change)) (change_as change)
quiet_alike s (rows.Sent job) quiet = sent_alike s job job.task
quiet_alike s (rows.Made proc made) quiet =
    one_alike s.documents made.doc (λ d. record d { view = option_map (λ view. after_made view made.what) d.view }) (made_as made.what)
quiet_alike s (rows.Delivered proc) quiet = delivered_alike s.documents (slice_get (desk_of s proc).reports 0)
quiet_alike s kind quiet = alike_itself s.documents

-- a row of which the table says the same before and after
pub alike_runners : (s : Seen) (event : ℕ) (actor : Actor) (kind : RowKind) (t : RunnersState) → AreAlike s.documents (documents_after s kind) → AreRunners s t → AreRunners (after s (record { event = event; actor = actor; row = kind })) t
alike_runners s event actor kind t alike are = still_said s.documents (documents_after s kind) t alike are

pub quiet_runners : (s : Seen) (event : ℕ) (actor : Actor) (kind : RowKind) (t : RunnersState) → IsQuiet kind → AreRunners s t → AreRunners (after s (record { event = event; actor = actor; row = kind })) t
quiet_runners s event actor kind t quiet are = alike_runners s event actor kind t (quiet_alike s kind quiet) are
