-- What each row of the coordinator's work makes of how the requests ended.
use Rattle.std.proofs.Common.{◌≡◌, ℕ, zero, suc, ◌-◌, Bool, true, false, cond, ◌==◌, List, [], ◌∷◌, map, Option, Some, None, refl, sym, ap, ◌∙◌}
use Rattle.std.specs.Prelude.{slice_get, slice_set}
use Rattle.std.specs.Option.{option_map_or}
use Rattle.tab_ids.specs.declared.ReqId.{ReqId}
use Rattle.log_model.specs.declared.job.Job.{Job}
use Rattle.log_model.specs.declared.job.Task.{Task}
use Rattle.log_model.specs.declared.job.Task.TheVariants as tasks
use Rattle.log_model.specs.declared.job.Why.{Why}
use Rattle.log_model.specs.declared.job.Why.TheVariants as whys
use Rattle.log_model.specs.declared.made.Report.{Report}
use Rattle.log_model.specs.declared.made.Report.TheVariants as told
use Rattle.log_model.specs.declared.outcome.Ending.{Ending}
use Rattle.log_model.specs.declared.outcome.Outcome.{Outcome}
use Rattle.log_model.specs.declared.outcome.Outcome.TheVariants as outcomes
use Rattle.log_model.specs.declared.row_kind.RowKind.{RowKind}
use Rattle.log_model.specs.declared.row_kind.RowKind.TheVariants as rows
use Rattle.log_model.specs.After.{requests_after}
use Rattle.log_model.specs.AfterRequests.{on_request, on_served, request_served, requests_sent, requests_delivered, requests_told}
use Rattle.log_model.specs.Formed.{is_work}
use Rattle.log_model.specs.Seen.{Seen, Document, Asked, document_of}
use Rattle.world.specs.Notes.{ended_in, endings_noted}

abbrev pub endings : List Asked → List (Option Ending)
endings asked = map (λ (q : Asked). q.ending) asked

-- ---- one request changed

map_set : (asked : List Asked) (n : ℕ) (new : Asked) → endings (slice_set asked n new) ≡ slice_set (endings asked) n new.ending
map_set [] n new = refl
map_set (q ∷ asked) zero new = refl
map_set (q ∷ asked) (suc n) new = ap (λ (l : List (Option Ending)). q.ending ∷ l) (map_set asked n new)

set_same : (asked : List Asked) (n : ℕ) (q : Asked) → slice_get asked n ≡ Some q → slice_set (endings asked) n q.ending ≡ endings asked
set_same [] n q at = cc
set_same (x ∷ asked) zero q at =
    let same : x ≡ q = cc in ap (λ (y : Asked). y.ending ∷ endings asked) (sym same)
set_same (x ∷ asked) (suc n) q at = ap (λ (l : List (Option Ending)). x.ending ∷ l) (set_same asked n q at)

set_none : (asked : List Asked) (n : ℕ) (ending : Option Ending) → slice_get asked n ≡ None → slice_set (endings asked) n ending ≡ endings asked
set_none [] n ending at = refl
set_none (x ∷ asked) zero ending at = cc
set_none (x ∷ asked) (suc n) ending at = ap (λ (l : List (Option Ending)). x.ending ∷ l) (set_none asked n ending at)

-- a change that leaves its ending
pub left_on : (asked : List Asked) (req : ReqId) (f : Asked → Asked) → ((q : Asked) → (f q).ending ≡ q.ending) → endings (on_request req f asked) ≡ endings asked
left_on asked req f same = by_number (req.0 == 0)
  where
    by_found : (o : Option Asked) → slice_get asked (req.0 - 1) ≡ o → endings (option_map_or (λ q. slice_set asked (req.0 - 1) (f q)) o asked) ≡ endings asked
    by_found None e = refl
    by_found (Some q) e =
        map_set asked (req.0 - 1) (f q) ∙ (ap (λ (o : Option Ending). slice_set (endings asked) (req.0 - 1) o) (same q) ∙ set_same asked (req.0 - 1) q e)

    by_number : (b : Bool) → endings (option_map_or (λ q. slice_set asked (req.0 - 1) (f q)) (cond b None (slice_get asked (req.0 - 1))) asked) ≡ endings asked
    by_number true = refl
    by_number false = by_found (slice_get asked (req.0 - 1)) refl

-- a change that ends it
pub ended_on : (asked : List Asked) (req : ReqId) (f : Asked → Asked) (ending : Ending) → ((q : Asked) → (f q).ending ≡ Some ending) → endings (on_request req f asked) ≡ ended_in (endings asked) req ending
ended_on asked req f ending ends = by_number (req.0 == 0)
  where
    by_found : (o : Option Asked) → slice_get asked (req.0 - 1) ≡ o → endings (option_map_or (λ q. slice_set asked (req.0 - 1) (f q)) o asked) ≡ slice_set (endings asked) (req.0 - 1) (Some ending)
    by_found None e = sym (set_none asked (req.0 - 1) (Some ending) e)
    by_found (Some q) e =
        map_set asked (req.0 - 1) (f q) ∙ ap (λ (o : Option Ending). slice_set (endings asked) (req.0 - 1) o) (ends q)

    by_number : (b : Bool) → endings (option_map_or (λ q. slice_set asked (req.0 - 1) (f q)) (cond b None (slice_get asked (req.0 - 1))) asked) ≡ cond b (endings asked) (slice_set (endings asked) (req.0 - 1) (Some ending))
    by_number true = refl
    by_number false = by_found (slice_get asked (req.0 - 1)) refl

-- ---- orders and answers

served_left : (s : Seen) (job : Job) (task : Task) (q : Asked) → (request_served s job task q).ending ≡ q.ending
served_left s job (tasks.Activate entry epoch length index memo address) q = by_document (document_of s job.doc) refl
  where
    by_document : (o : Option Document) → document_of s job.doc ≡ o → (request_served s job (tasks.Activate entry epoch length index memo address) q).ending ≡ q.ending
    by_document None e = rw e refl
    by_document (Some d) e = rw e refl
served_left s job tasks.Freeze q = refl
served_left s job tasks.Discard q = refl
served_left s job (tasks.Ask slot cause) q = refl
served_left s job (tasks.Populate nav state address initial) q = refl
served_left s job (tasks.Update length index) q = refl
served_left s job (tasks.DoFragment req mode address) q = refl

left_served : (why : Why) (f : Asked → Asked) (asked : List Asked) → ((q : Asked) → (f q).ending ≡ q.ending) → endings (on_served why f asked) ≡ endings asked
left_served (whys.Req req) f asked same = left_on asked req f same
left_served (whys.Death death) f asked same = refl
left_served whys.Evict f asked same = refl
left_served whys.Start f asked same = refl

sent_left : (s : Seen) (job : Job) (task : Task) (asked : List Asked) → endings (requests_sent s job task asked) ≡ endings asked
sent_left s job (tasks.DoFragment req mode address) asked =
    left_on asked req (λ q. record q { fragment = Some job.doc }) (λ q. refl)
sent_left s job (tasks.Populate nav state address initial) asked = refl
sent_left s job (tasks.Update length index) asked = refl
sent_left s job (tasks.Activate entry epoch length index memo address) asked =
    left_served job.why (request_served s job (tasks.Activate entry epoch length index memo address)) asked (served_left s job (tasks.Activate entry epoch length index memo address))
sent_left s job tasks.Freeze asked = left_served job.why (request_served s job tasks.Freeze) asked (served_left s job tasks.Freeze)
sent_left s job tasks.Discard asked =
    left_served job.why (request_served s job tasks.Discard) asked (served_left s job tasks.Discard)
sent_left s job (tasks.Ask slot cause) asked =
    left_served job.why (request_served s job (tasks.Ask slot cause)) asked (served_left s job (tasks.Ask slot cause))

pub delivered_left : (report : Option Report) (asked : List Asked) → endings (requests_delivered report asked) ≡ endings asked
delivered_left None asked = refl
delivered_left (Some (told.Done job outcome made)) asked = by_outcome outcome
  where
    by_outcome : (outcome : Outcome) → endings (requests_delivered (Some (told.Done job outcome made)) asked) ≡ endings asked
    by_outcome (outcomes.Asked verdict) = left_served job.why _ asked (λ q. refl)
    by_outcome outcomes.Fragmented = refl
    by_outcome (outcomes.Populated slot) = refl
    by_outcome outcomes.Activated = refl
    by_outcome outcomes.Updated = refl
    by_outcome outcomes.Frozen = refl
    by_outcome outcomes.Discarded = refl
delivered_left (Some (told.Made made)) asked = refl
delivered_left (Some (told.Died death)) asked = refl

-- ---- the coordinator's work

pub work_endings : (s : Seen) (kind : RowKind) → is_work kind ≡ true → endings (requests_told s kind (requests_after s.requests kind)) ≡ endings_noted (endings s.requests) kind
work_endings s (rows.Started req goal) work =
    left_on (on_request req (λ q. record q { is_started = true; goal = goal }) s.requests) req _ (λ q. refl)
    ∙ left_on s.requests req _ (λ q. refl)
work_endings s (rows.Applied req change) work =
    left_on _ req _ (λ q. refl) ∙ (left_on _ req _ (λ q. refl) ∙ ended_on s.requests req _ _ (λ q. refl))
work_endings s (rows.Refused req reason) work = ended_on s.requests req _ _ (λ q. refl)
work_endings s (rows.Dropped req cause) work = ended_on s.requests req _ _ (λ q. refl)
work_endings s (rows.Prompted req doc) work = left_on s.requests req _ (λ q. refl)
work_endings s (rows.Sent job) work = sent_left s job job.task s.requests
work_endings s (rows.Opened entry state doc proc slot address) work = cc
work_endings s (rows.Accepted req doc what) work = cc
work_endings s (rows.Answered req stay) work = cc
work_endings s (rows.Taken proc job live dirty) work = cc
work_endings s (rows.Finished proc job outcome) work = cc
work_endings s (rows.Made proc made) work = cc
work_endings s (rows.Delivered proc) work = cc
work_endings s (rows.Killed proc death) work = cc
work_endings s (rows.Evicted state) work = cc
