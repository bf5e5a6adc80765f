-- What has passed its unload check stays so, over each row but those that ask, prompt or answer.
use Rattle.std.proofs.Common.{◌≡◌, ◌+◌, Bool, true, false, not, cond, ◌&&◌, ◌||◌, ◌==◌, List, [], ◌∷◌, ◌++◌, length, map, Option, Some, None, refl, sym, ap, ◌∙◌, subst}
use Rattle.std.specs.Prelude.{find, is_none, option_map, slice_get}
use Rattle.std.specs.List.{list_all}
use Rattle.tab_ids.specs.declared.DocId.{DocId}
use Rattle.tab_ids.specs.declared.EntryId.{EntryId}
use Rattle.tab_ids.specs.declared.JobId.{JobId}
use Rattle.tab_ids.specs.declared.ReqId.{ReqId}
use Rattle.log_model.specs.declared.change.Change.{Change}
use Rattle.log_model.specs.declared.change.Change.TheVariants as changes
use Rattle.log_model.specs.declared.job.Job.{Job}
use Rattle.log_model.specs.declared.job.Order.{Order}
use Rattle.log_model.specs.declared.job.Task.{Task}
use Rattle.log_model.specs.declared.job.Task.TheVariants as tasks
use Rattle.log_model.specs.declared.job.Why.{Why}
use Rattle.log_model.specs.declared.job.Why.TheVariants as whys
use Rattle.log_model.specs.declared.made.Report.{Report}
use Rattle.log_model.specs.declared.made.Report.TheVariants as reports
use Rattle.log_model.specs.declared.outcome.Outcome.{Outcome}
use Rattle.log_model.specs.declared.outcome.Outcome.TheVariants as outcomes
use Rattle.log_model.specs.declared.row_kind.LogRow.{LogRow}
use Rattle.log_model.specs.declared.row_kind.RowKind.{RowKind}
use Rattle.log_model.specs.declared.row_kind.RowKind.TheVariants as rows
use Rattle.log_model.specs.After.{after, new_request}
use Rattle.log_model.specs.AfterDocuments.{addressed, applied_to, documents_delivered, documents_finished, documents_sent, new_document, on_document, slot_finished, task_in_hand, told_after_change, with_applied}
use Rattle.log_model.specs.AfterRequests.{on_asking, on_request, on_served, request_begun, request_served, requests_delivered, requests_finished, requests_sent}
use Rattle.log_model.specs.Equal.{holds}
use Rattle.log_model.specs.Places.{all_asked, has_passed, has_passed_with, is_gone, is_settled_asking, may_leave}
use Rattle.log_model.specs.Seen.{Asked, Asking, Document, Seen, document_of, desk_of}
use Rattle.seen_laws.proofs.Keyed.{find_map}
use Rattle.seen_facts.proofs.Each.Courses.{was_asked}
use Rattle.seen_facts.proofs.Each.Runs.{each_asked_more, each_asked_on}
use Rattle.seen_facts.proofs.Mover.Asked.{AsksNone}
use Rattle.seen_facts.proofs.Request.Readers.{SameReads, on_read, reads_then}
use Rattle.seen_facts.proofs.Walk.Aims.{is_away}
use Rattle.seen_facts.specs.Asked.Asking.{HavePassed}
use Rattle.seen_facts.specs.Each.Runs.{EachAsked}

and_parts : (a b : Bool) → (a && b) ≡ true → (a ≡ true) × (b ≡ true)
and_parts true b e = (refl, e)
and_parts false b e = cc

both : {a b : Bool} → a ≡ true → b ≡ true → (a && b) ≡ true
both p q = rw (p, q) refl

-- ---- what is gone stays gone

-- a change of documents that keeps their numbers, and who is gone
record KeepsGone (f : Document → Document) : Type 0 where
  nr : (d : Document) → (f d).nr.0 ≡ d.nr.0
  away : (d : Document) → is_away d ≡ true → is_away (f d) ≡ true

abbrev gone_in : List Document → DocId → Bool
gone_in documents doc = holds is_away (find (λ (d : Document). d.nr.0 == doc.0) documents)

abbrev GoneStay : List Document → List Document → Type 0
GoneStay old new = (doc : DocId) → gone_in old doc ≡ true → gone_in new doc ≡ true

map_stays : (f : Document → Document) → KeepsGone f → (documents : List Document) → GoneStay documents (map f documents)
map_stays f keeps documents doc gone =
    ap (λ (o : Option Document). holds is_away o) (find_map (λ (d : Document). d.nr.0) f doc.0 documents keeps.nr)
    ∙ by_found (find (λ (d : Document). d.nr.0 == doc.0) documents) gone
  where
    by_found : (o : Option Document) → holds is_away o ≡ true → holds is_away (option_map f o) ≡ true
    by_found None never = absurd cc
    by_found (Some d) is = keeps.away d is

more_stay : (documents : List Document) (new : Document) → GoneStay documents (documents ++ new ∷ [])
more_stay [] new doc never = absurd cc
more_stay (d ∷ documents) new doc gone = by_test (d.nr.0 == doc.0) (more_stay documents new doc) gone
  where
    by_test : (b : Bool) → (gone_in documents doc ≡ true → gone_in (documents ++ new ∷ []) doc ≡ true) → holds is_away (cond b (Some d) (find (λ (x : Document). x.nr.0 == doc.0) documents)) ≡ true → holds is_away (cond b (Some d) (find (λ (x : Document). x.nr.0 == doc.0) (documents ++ new ∷ []))) ≡ true
    by_test true more is = is
    by_test false more is = more is

-- a change of some documents alone
keeps_if : (test : Document → Bool) (f : Document → Document) → KeepsGone f → KeepsGone (λ d. cond (test d) (f d) d)
keeps_if test f keeps =
    record {
      nr = λ d. elim (test d) as (λ b. (let x : Document = cond b (f d) d in x).nr.0 ≡ d.nr.0) [ true ↦ keeps.nr d | false ↦ refl ];
      away = λ d is. elim (test d) as (λ b. is_away (cond b (f d) d) ≡ true) [ true ↦ keeps.away d is | false ↦ is ];
    }

keeps_then : (f g : Document → Document) → KeepsGone f → KeepsGone g → KeepsGone (λ d. g (f d))
keeps_then f g one two =
    record { nr = λ d. two.nr (f d) ∙ one.nr d; away = λ d is. two.away (f d) (one.away d is) }

on_stays : (doc : DocId) (f : Document → Document) → KeepsGone f → (documents : List Document) → GoneStay documents (on_document doc f documents)
on_stays doc f keeps documents = map_stays _ (keeps_if (λ d. d.nr.0 == doc.0) f keeps) documents

-- a change that a change of the history makes
told_keeps : (change : Change) → KeepsGone (λ d. told_after_change d change)
told_keeps (changes.Push nav entry state address memo) =
    keeps_if (λ d. d.nr.0 == entry.maker) (λ d. record d { told = None }) (record { nr = λ d. refl; away = λ d is. is })
told_keeps (changes.Replace nav over entry state address memo) = record { nr = λ d. refl; away = λ d is. is }
told_keeps (changes.AddFrame owner nav entry state) = record { nr = λ d. refl; away = λ d is. is }
told_keeps (changes.RemoveFrame nav) = record { nr = λ d. refl; away = λ d is. is }
told_keeps (changes.Traverse goal) = record { nr = λ d. refl; away = λ d is. is }
told_keeps (changes.Reload nav) = record { nr = λ d. refl; away = λ d is. is }
told_keeps changes.Edit = record { nr = λ d. refl; away = λ d is. is }

with_keeps : (entry : EntryId) → KeepsGone (with_applied entry)
with_keeps entry =
    keeps_if (λ d. d.nr.0 == entry.maker) (λ d. record d { last_applied = entry.nr }) (record { nr = λ d. refl; away = λ d is. is })

applied_keeps : (change : Change) → KeepsGone (applied_to change)
applied_keeps (changes.Push nav entry state address memo) = with_keeps entry
applied_keeps (changes.Replace nav over entry state address memo) = with_keeps entry
applied_keeps (changes.Reload nav) =
    keeps_if (λ d. d.nav.0 == nav.0) (λ d. record d { is_fresh = false }) (record { nr = λ d. refl; away = λ d is. is })
applied_keeps (changes.AddFrame owner nav entry state) = record { nr = λ d. refl; away = λ d is. is }
applied_keeps (changes.RemoveFrame nav) = record { nr = λ d. refl; away = λ d is. is }
applied_keeps (changes.Traverse goal) = record { nr = λ d. refl; away = λ d is. is }
applied_keeps changes.Edit = record { nr = λ d. refl; away = λ d is. is }

addressed_keeps : (task : Task) → KeepsGone (addressed task)
addressed_keeps task = record { nr = λ d. refl; away = λ d is. is }

-- an order that is sent
sent_stay : (s : Seen) (job : Job) (task : Task) → GoneStay s.documents (documents_sent s job task)
sent_stay s job (tasks.Populate nav state address initial) = more_stay s.documents (new_document s job nav state)
sent_stay s job tasks.Discard = on_stays job.doc _ (record { nr = λ d. refl; away = λ d is. refl }) s.documents
sent_stay s job (tasks.Activate entry epoch length index memo address) = on_stays job.doc _ (addressed_keeps (tasks.Activate entry epoch length index memo address)) s.documents
sent_stay s job (tasks.Update length index) = on_stays job.doc _ (addressed_keeps (tasks.Update length index)) s.documents
sent_stay s job tasks.Freeze = on_stays job.doc _ (addressed_keeps tasks.Freeze) s.documents
sent_stay s job (tasks.Ask slot cause) = on_stays job.doc _ (addressed_keeps (tasks.Ask slot cause)) s.documents
sent_stay s job (tasks.DoFragment req mode address) = on_stays job.doc _ (addressed_keeps (tasks.DoFragment req mode address)) s.documents

-- one that is finished
slot_stays : (documents : List Document) (hand : Option Job) (outcome : Outcome) → GoneStay documents (slot_finished documents hand outcome)
slot_stays documents None outcome doc gone = gone
slot_stays documents (Some job) (outcomes.Populated slot) doc gone =
    on_stays job.doc (λ d. record d { slot = slot }) (record { nr = λ d. refl; away = λ d is. is }) documents doc gone
slot_stays documents (Some job) outcomes.Activated doc gone = gone
slot_stays documents (Some job) outcomes.Updated doc gone = gone
slot_stays documents (Some job) outcomes.Frozen doc gone = gone
slot_stays documents (Some job) outcomes.Discarded doc gone = gone
slot_stays documents (Some job) (outcomes.Asked verdict) doc gone = gone
slot_stays documents (Some job) outcomes.Fragmented doc gone = gone

view_stays : (documents : List Document) (hand : Option Job) → GoneStay documents (documents_finished documents hand)
view_stays documents None doc gone = gone
view_stays documents (Some job) doc gone =
    on_stays job.doc _ (record { nr = λ d. refl; away = λ d is. is }) documents doc gone

-- a report that is delivered
away_known : (d : Document) → is_away d ≡ true → (d.is_discarded || true) ≡ true
away_known d is = by_first d.is_discarded
  where
    by_first : (b : Bool) → (b || true) ≡ true
    by_first true = refl
    by_first false = refl

delivered_stay : (documents : List Document) (report : Option Report) → GoneStay documents (documents_delivered documents report)
delivered_stay documents None doc gone = gone
delivered_stay documents (Some (reports.Made made)) doc gone = gone
delivered_stay documents (Some (reports.Died death)) doc gone =
    map_stays _ (keeps_if _ (λ d. record d { is_known_dead = true }) (record { nr = λ d. refl; away = λ d is. away_known d is })) documents doc gone
delivered_stay documents (Some (reports.Done job outcome made)) doc gone = by_outcome outcome
  where
    by_outcome : (o : Outcome) → gone_in (documents_delivered documents (Some (reports.Done job o made))) doc ≡ true
    by_outcome (outcomes.Populated slot) =
        on_stays job.doc (λ d. record d { is_ready = true; is_fresh = true }) (record { nr = λ d. refl; away = λ d is. is }) documents doc gone
    by_outcome outcomes.Activated = gone
    by_outcome outcomes.Updated = gone
    by_outcome outcomes.Frozen = gone
    by_outcome outcomes.Discarded = gone
    by_outcome (outcomes.Asked verdict) = gone
    by_outcome outcomes.Fragmented = gone

-- each row, but that which opens the tab
abbrev pub IsNoOpening : RowKind → Type 0
IsNoOpening (rows.Opened entry state doc proc slot address) = ⊥
IsNoOpening _ = Unit {0}

pub gone_stays : (s : Seen) (row : LogRow) → IsNoOpening row.row → (doc : DocId) → is_gone s doc ≡ true → is_gone (after s row) doc ≡ true
gone_stays s row is doc gone = by_kind row.row refl is
  where
    by_kind : (kind : RowKind) → row.row ≡ kind → IsNoOpening kind → is_gone (after s row) doc ≡ true
    by_kind (rows.Opened entry state first proc slot address) e never = absurd never
    by_kind (rows.Accepted req of what) e is_ = rw e gone
    by_kind (rows.Started req goal) e is_ = rw e gone
    by_kind (rows.Applied req change) e is_ =
        rw e (map_stays (λ d. applied_to change (told_after_change d change)) (keeps_then (λ d. told_after_change d change) (applied_to change) (told_keeps change) (applied_keeps change)) s.documents doc gone)
    by_kind (rows.Refused req reason) e is_ = rw e gone
    by_kind (rows.Dropped req cause) e is_ = rw e gone
    by_kind (rows.Prompted req of) e is_ = rw e gone
    by_kind (rows.Answered req stay) e is_ = rw e gone
    by_kind (rows.Sent job) e is_ = rw e (sent_stay s job job.task doc gone)
    by_kind (rows.Taken proc job live dirty) e is_ = rw e gone
    by_kind (rows.Finished proc job outcome) e is_ =
        rw e (slot_stays (documents_finished s.documents (task_in_hand s proc)) (task_in_hand s proc) outcome doc (view_stays s.documents (task_in_hand s proc) doc gone))
    by_kind (rows.Made proc made) e is_ =
        rw e (on_stays made.doc _ (record { nr = λ d. refl; away = λ d is. is }) s.documents doc gone)
    by_kind (rows.Delivered proc) e is_ =
        rw e (delivered_stay s.documents (slice_get (desk_of s proc).reports 0) doc gone)
    by_kind (rows.Killed proc death) e is_ =
        rw e (map_stays _ (keeps_if _ (λ d. record d { dead_by = Some death; view = None }) (record { nr = λ d. refl; away = λ d is. is })) s.documents doc gone)
    by_kind (rows.Evicted state) e is_ = rw e gone

-- ---- what is read of a check

pub record Check : Type 0 where
  pub asks : List Asking
  pub prompted : Option DocId
  pub answered : Option Bool

abbrev pub check_of : Asked → Check
check_of q = record { asks = q.asks; prompted = q.prompted; answered = q.answered }

-- the check has passed, where these documents are gone
abbrev Passes : (DocId → Bool) → Asked → Type 0
Passes gone q = has_passed_with gone q ≡ true

abbrev EachPasses : (DocId → Bool) → List Asked → Type 0
EachPasses gone asked = EachAsked (λ req q. Passes gone q) asked

passes_same : (gone : DocId → Bool) (p q : Asked) → check_of p ≡ check_of q → Passes gone p → Passes gone q
passes_same gone p q same is =
    subst (λ (c : Check). (list_all (is_settled_asking gone) c.asks && (is_none c.prompted || holds not c.answered)) ≡ true) same is

-- where the same is read, all pass as before
passes_again : (gone : DocId → Bool) (asked next_ : List Asked) → SameReads check_of asked next_ → EachPasses gone asked → EachPasses gone next_
passes_again gone asked next_ same each req q at =
    let was = was_asked check_of asked next_ same req q at in
    passes_same gone was.0 q was.2 (each req was.0 was.1)

-- where one changes, and passes still
passes_on : (gone : DocId → Bool) (asked : List Asked) (req : ReqId) (f : Asked → Asked) → ((q : Asked) → Passes gone q → Passes gone (f q)) → EachPasses gone asked → EachPasses gone (on_request req f asked)
passes_on gone asked req f own each =
    each_asked_on (λ r q. Passes gone q) (λ r q. Passes gone q) asked req f (λ r q apart is. is) (λ q at is. own q is) each

passes_served : (gone : DocId → Bool) (why : Why) (f : Asked → Asked) (asked : List Asked) → ((q : Asked) → Passes gone q → Passes gone (f q)) → EachPasses gone asked → EachPasses gone (on_served why f asked)
passes_served gone (whys.Req req) f asked own each = passes_on gone asked req f own each
passes_served gone whys.Start f asked own each = each
passes_served gone whys.Evict f asked own each = each
passes_served gone (whys.Death death) f asked own each = each

-- ---- more documents are gone

settled_more : (gone more : DocId → Bool) → ((doc : DocId) → gone doc ≡ true → more doc ≡ true) → (asks : List Asking) → list_all (is_settled_asking gone) asks ≡ true → list_all (is_settled_asking more) asks ≡ true
settled_more gone more grow [] is = refl
settled_more gone more grow (asking ∷ asks) is =
    let parts = and_parts (is_settled_asking gone asking) (list_all (is_settled_asking gone) asks) is in
    both (one asking.is_delivered (gone asking.doc) (more asking.doc) (grow asking.doc) parts.0) (settled_more gone more grow asks parts.1)
  where
    one : (a b c : Bool) → (b ≡ true → c ≡ true) → (a || b) ≡ true → (a || c) ≡ true
    one true b c grows e = refl
    one false b c grows e = grows e

pub passes_more : (gone more : DocId → Bool) → ((doc : DocId) → gone doc ≡ true → more doc ≡ true) → (q : Asked) → has_passed_with gone q ≡ true → has_passed_with more q ≡ true
passes_more gone more grow q is =
    let parts = and_parts (list_all (is_settled_asking gone) q.asks) (may_leave q) is in
    both (settled_more gone more grow q.asks parts.0) parts.1

-- ---- answers

-- a question of the order is changed, and what was settled is still
heard_settled : (gone : DocId → Bool) (job : JobId) (f : Asking → Asking) → ((asking : Asking) → is_settled_asking gone asking ≡ true → is_settled_asking gone (f asking) ≡ true) → (asks : List Asking) → list_all (is_settled_asking gone) asks ≡ true → list_all (is_settled_asking gone) (map (λ (asking : Asking). cond (asking.job.0 == job.0) (f asking) asking) asks) ≡ true
heard_settled gone job f own [] is = refl
heard_settled gone job f own (asking ∷ asks) is =
    let parts = and_parts (is_settled_asking gone asking) (list_all (is_settled_asking gone) asks) is in
    both (by_test (asking.job.0 == job.0) parts.0) (heard_settled gone job f own asks parts.1)
  where
    by_test : (b : Bool) → is_settled_asking gone asking ≡ true → is_settled_asking gone (cond b (f asking) asking) ≡ true
    by_test true e = own asking e
    by_test false e = e

heard_passes : (gone : DocId → Bool) (job : JobId) (f : Asking → Asking) → ((asking : Asking) → is_settled_asking gone asking ≡ true → is_settled_asking gone (f asking) ≡ true) → (q : Asked) → Passes gone q → Passes gone (on_asking job f q)
heard_passes gone job f own q is =
    let parts = and_parts (list_all (is_settled_asking gone) q.asks) (may_leave q) is in
    both (heard_settled gone job f own q.asks parts.0) parts.1

finished_passes : (gone : DocId → Bool) (s : Seen) (hand : Option Order) (outcome : Outcome) (asked : List Asked) → EachPasses gone asked → EachPasses gone (requests_finished s hand outcome asked)
finished_passes gone s None outcome asked each = each
finished_passes gone s (Some order) (outcomes.Asked verdict) asked each =
    passes_served gone order.job.why _ asked (heard_passes gone order.job.nr (λ asking. record asking { verdict = Some verdict }) (λ asking is. is)) each
finished_passes gone s (Some order) outcomes.Fragmented asked each = by_task order.job.task refl
  where
    by_task : (task : Task) → order.job.task ≡ task → EachPasses gone (requests_finished s (Some order) outcomes.Fragmented asked)
    by_task (tasks.DoFragment req mode address) is =
        rw is (passes_again gone asked (on_request req _ asked) (on_read check_of asked req _ (λ q. refl)) each)
    by_task (tasks.Populate nav state address initial) is = rw is each
    by_task (tasks.Activate entry epoch length index memo address) is = rw is each
    by_task (tasks.Update length index) is = rw is each
    by_task tasks.Freeze is = rw is each
    by_task tasks.Discard is = rw is each
    by_task (tasks.Ask slot cause) is = rw is each
finished_passes gone s (Some order) (outcomes.Populated slot) asked each = each
finished_passes gone s (Some order) outcomes.Activated asked each = each
finished_passes gone s (Some order) outcomes.Updated asked each = each
finished_passes gone s (Some order) outcomes.Frozen asked each = each
finished_passes gone s (Some order) outcomes.Discarded asked each = each

delivered_passes : (gone : DocId → Bool) (report : Option Report) (asked : List Asked) → EachPasses gone asked → EachPasses gone (requests_delivered report asked)
delivered_passes gone None asked each = each
delivered_passes gone (Some (reports.Made made)) asked each = each
delivered_passes gone (Some (reports.Died death)) asked each = each
delivered_passes gone (Some (reports.Done job outcome made)) asked each = by_outcome outcome
  where
    by_outcome : (o : Outcome) → EachPasses gone (requests_delivered (Some (reports.Done job o made)) asked)
    by_outcome (outcomes.Asked verdict) =
        passes_served gone job.why _ asked (heard_passes gone job.nr (λ asking. record asking { is_delivered = true }) (λ asking is. refl)) each
    by_outcome outcomes.Fragmented = each
    by_outcome (outcomes.Populated slot) = each
    by_outcome outcomes.Activated = each
    by_outcome outcomes.Updated = each
    by_outcome outcomes.Frozen = each
    by_outcome outcomes.Discarded = each

-- ---- orders that ask nobody

served_check : (s : Seen) (job : Job) (task : Task) → AsksNone task → (q : Asked) → check_of (request_served s job task q) ≡ check_of q
served_check s job (tasks.Activate entry epoch length index memo address) none q = by_document (document_of s job.doc) refl
  where
    by_document : (o : Option Document) → document_of s job.doc ≡ o → check_of (request_served s job (tasks.Activate entry epoch length index memo address) q) ≡ check_of q
    by_document None at = rw at refl
    by_document (Some d) at = rw at refl
served_check s job tasks.Freeze none q = refl
served_check s job tasks.Discard none q = refl
served_check s job (tasks.Ask slot cause) never q = absurd never
served_check s job (tasks.Populate nav state address initial) none q = refl
served_check s job (tasks.Update length index) none q = refl
served_check s job (tasks.DoFragment req mode address) none q = refl

sent_passes : (gone : DocId → Bool) (s : Seen) (job : Job) (task : Task) (asked : List Asked) → AsksNone task → EachPasses gone asked → EachPasses gone (requests_sent s job task asked)
sent_passes gone s job (tasks.DoFragment req mode address) asked none each =
    passes_again gone asked (on_request req _ asked) (on_read check_of asked req (λ q. record q { fragment = Some job.doc }) (λ q. refl)) each
sent_passes gone s job (tasks.Populate nav state address initial) asked none each = each
sent_passes gone s job (tasks.Update length index) asked none each = each
sent_passes gone s job (tasks.Activate entry epoch length index memo address) asked none each =
    passes_served gone job.why _ asked (λ q is. passes_same gone q (request_served s job (tasks.Activate entry epoch length index memo address) q) (sym (served_check s job (tasks.Activate entry epoch length index memo address) none q)) is) each
sent_passes gone s job tasks.Freeze asked none each =
    passes_served gone job.why _ asked (λ q is. passes_same gone q (request_served s job tasks.Freeze q) (sym (served_check s job tasks.Freeze none q)) is) each
sent_passes gone s job tasks.Discard asked none each =
    passes_served gone job.why _ asked (λ q is. passes_same gone q (request_served s job tasks.Discard q) (sym (served_check s job tasks.Discard none q)) is) each
sent_passes gone s job (tasks.Ask slot cause) asked never each = absurd never

-- the user lets the page go
lets_go : (q : Asked) (stay : Bool) → stay ≡ false → may_leave (record q { answered = Some stay }) ≡ true
lets_go q stay leave = rw leave (by_first (is_none q.prompted))
  where
    by_first : (b : Bool) → (b || true) ≡ true
    by_first true = refl
    by_first false = refl

-- ---- the rows

-- the row asks no document and not the user, who doesn't answer to stay
abbrev pub IsNoQuestion : RowKind → Type 0
IsNoQuestion (rows.Opened entry state doc proc slot address) = ⊥
IsNoQuestion (rows.Sent job) = AsksNone job.task
IsNoQuestion (rows.Prompted req doc) = ⊥
IsNoQuestion (rows.Answered req stay) = stay ≡ false
IsNoQuestion _ = Unit {0}

-- an accepted request has the next number
abbrev pub IsNext : Seen → RowKind → Type 0
IsNext s (rows.Accepted req doc what) = req.0 ≡ length s.requests + 1
IsNext s _ = Unit {0}

-- over such a row all have passed still
pub have_passed : (s : Seen) (row : LogRow) → IsNoQuestion row.row → IsNext s row.row → HavePassed s → HavePassed (after s row)
have_passed s row quiet next each req q at =
    passes_more (is_gone s) (is_gone (after s row)) (gone_stays s row (no_opening row.row quiet)) q (by_kind row.row refl quiet next req q at)
  where
    no_opening : (kind : RowKind) → IsNoQuestion kind → IsNoOpening kind
    no_opening (rows.Opened entry state doc proc slot address) never = never
    no_opening (rows.Accepted r doc what) is = tt
    no_opening (rows.Started r goal) is = tt
    no_opening (rows.Applied r change) is = tt
    no_opening (rows.Refused r reason) is = tt
    no_opening (rows.Dropped r cause) is = tt
    no_opening (rows.Prompted r doc) is = tt
    no_opening (rows.Answered r stay) is = tt
    no_opening (rows.Sent job) is = tt
    no_opening (rows.Taken proc job live dirty) is = tt
    no_opening (rows.Finished proc job outcome) is = tt
    no_opening (rows.Made proc made) is = tt
    no_opening (rows.Delivered proc) is = tt
    no_opening (rows.Killed proc death) is = tt
    no_opening (rows.Evicted state) is = tt

    by_kind : (kind : RowKind) → row.row ≡ kind → IsNoQuestion kind → IsNext s kind → EachPasses (is_gone s) (after s row).requests
    by_kind (rows.Opened entry state doc proc slot address) e never n = absurd never
    by_kind (rows.Accepted r doc what) e is n =
        rw e (each_asked_more (λ x y. Passes (is_gone s) y) s.requests (new_request r doc what) r n refl each)
    by_kind (rows.Started r goal) e is n =
        rw e (passes_again (is_gone s) s.requests (on_request r (request_begun s) (on_request r (λ x. record x { is_started = true; goal = goal }) s.requests)) (reads_then check_of s.requests (on_request r (λ x. record x { is_started = true; goal = goal }) s.requests) _ (on_read check_of s.requests r _ (λ x. refl)) (on_read check_of (on_request r (λ x. record x { is_started = true; goal = goal }) s.requests) r (request_begun s) (λ x. refl))) each)
    by_kind (rows.Applied r change) e is n =
        rw e (passes_on (is_gone s) _ r _ (λ x p. p) (passes_on (is_gone s) _ r _ (λ x p. p) (passes_on (is_gone s) s.requests r _ (λ x p. p) each)))
    by_kind (rows.Refused r reason) e is n = rw e (passes_on (is_gone s) s.requests r _ (λ x p. p) each)
    by_kind (rows.Dropped r cause) e is n = rw e (passes_on (is_gone s) s.requests r _ (λ x p. p) each)
    by_kind (rows.Prompted r doc) e never n = absurd never
    by_kind (rows.Answered r stay) e leave n =
        rw e (passes_on (is_gone s) s.requests r (λ x. record x { answered = Some stay }) (λ x p. let parts = and_parts (list_all (is_settled_asking (is_gone s)) x.asks) (may_leave x) p in both parts.0 (lets_go x stay leave)) each)
    by_kind (rows.Sent job) e is n = rw e (sent_passes (is_gone s) s job job.task s.requests is each)
    by_kind (rows.Taken proc job live dirty) e is n = rw e each
    by_kind (rows.Finished proc job outcome) e is n =
        rw e (finished_passes (is_gone s) s (desk_of s proc).in_hand outcome s.requests each)
    by_kind (rows.Made proc made) e is n = rw e (passes_on (is_gone s) s.requests made.req _ (λ x p. p) each)
    by_kind (rows.Delivered proc) e is n =
        rw e (delivered_passes (is_gone s) (slice_get (desk_of s proc).reports 0) s.requests each)
    by_kind (rows.Killed proc death) e is n = rw e each
    by_kind (rows.Evicted state) e is n = rw e each

-- ---- what has passed

-- its questions are settled
pub asked_all : (s : Seen) (q : Asked) → has_passed s q ≡ true → all_asked s q ≡ true
asked_all s q is = (and_parts (all_asked s q) (may_leave q) is).0

-- and the user lets the page go, or wasn't asked
pub leaves_freely : (s : Seen) (q : Asked) → has_passed s q ≡ true → may_leave q ≡ true
leaves_freely s q is = (and_parts (all_asked s q) (may_leave q) is).1
