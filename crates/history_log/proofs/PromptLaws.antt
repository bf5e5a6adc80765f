-- What a reader of the rows keeps is what the log says of the request's prompt.
use Rattle.std.proofs.Common.{◌≡◌, ◌≢◌, ℕ, ◌+◌, ◌-◌, ◌<◌, ◌≤◌, zero, suc, Bool, true, false, cond, ◌&&◌, ◌==◌, List, [], ◌∷◌, ◌++◌, length, drop, Option, Some, None, refl, ap, sym, ◌∙◌, arith, length-append}
use Rattle.std.specs.Prelude.{fold, slice_get, slice_set, option_map, is_some, is_none, not}
use Rattle.std.specs.Option.{option_map_or}
use Rattle.std.proofs.lemmas.Bool.Decides.{nat_tests}
use Rattle.std.proofs.lemmas.Grind.{common_steps}
use Rattle.std.proofs.lemmas.Option.{slice_get_within}
use Rattle.tab_ids.specs.declared.ReqId.{ReqId}
use Rattle.tab_ids.specs.declared.DocId.{DocId}
use Rattle.log_model.specs.declared.job.Job.{Job}
use Rattle.log_model.specs.declared.job.Order.{Order}
use Rattle.log_model.specs.declared.job.Task.{Task}
use Rattle.log_model.specs.declared.job.Task.TheVariants as tasks
use Rattle.log_model.specs.declared.job.Why.{Why}
use Rattle.log_model.specs.declared.job.Why.TheVariants as whys
use Rattle.log_model.specs.declared.made.Report.{Report}
use Rattle.log_model.specs.declared.made.Report.TheVariants as reports
use Rattle.log_model.specs.declared.outcome.Ending.{Ending}
use Rattle.log_model.specs.declared.outcome.Ending.TheVariants as endings
use Rattle.log_model.specs.declared.outcome.Outcome.{Outcome}
use Rattle.log_model.specs.declared.outcome.Outcome.TheVariants as outcomes
use Rattle.log_model.specs.declared.request.Request.{Request}
use Rattle.log_model.specs.declared.row_kind.LogRow.{LogRow}
use Rattle.log_model.specs.declared.row_kind.RowKind.{RowKind}
use Rattle.log_model.specs.declared.row_kind.RowKind.TheVariants as rows
use Rattle.log_model.specs.Equal.{holds}
use Rattle.log_model.specs.Seen.{Seen, Asked, Document, nothing, request_in, request_of, desk_of, document_of, place_of}
use Rattle.log_model.specs.After.{after, requests_after, new_request}
use Rattle.log_model.specs.AfterRequests.{on_request, on_served, request_served, requests_sent, requests_finished, requests_delivered, requests_told, with_activated, with_moved}
use Rattle.log_model.specs.AfterPlaces.{sleepers_below}
use Rattle.log_model.specs.Logs.{seen_of, is_prompt_up}
use Rattle.history_log.specs.declared.prompt_reader.PromptReader.{PromptReader}
use Rattle.history_log.specs.Prompts.{is_told, prompt_after, no_prompt, reads_up}

-- ---- one request among those of a list

none_past : {A : Type 0} (xs : List A) (n : ℕ) → slice_get xs n ≡ None → length xs ≤ n
none_past [] n at = omega arith
none_past (x ∷ xs) zero at = absurd (grind (arith, common_steps))
none_past (x ∷ xs) (suc n) at = let rest : length xs ≤ n = none_past xs n at in omega (arith, rest)

set_there : {A : Type 0} (xs : List A) (n : ℕ) (x y : A) → slice_get xs n ≡ Some x → slice_get (slice_set xs n y) n ≡ Some y
set_there [] n x y there = absurd (grind (arith, common_steps))
set_there (first ∷ xs) zero x y there = refl
set_there (first ∷ xs) (suc n) x y there = set_there xs n x y there

set_else : {A : Type 0} (xs : List A) (m n : ℕ) (y : A) → m ≢ n → slice_get (slice_set xs m y) n ≡ slice_get xs n
set_else [] m n y other = refl
set_else (first ∷ xs) zero zero y other = absurd (omega arith)
set_else (first ∷ xs) zero (suc n) y other = refl
set_else (first ∷ xs) (suc m) zero y other = refl
set_else (first ∷ xs) (suc m) (suc n) y other = set_else xs m n y (omega arith)

length_set : {A : Type 0} (xs : List A) (n : ℕ) (y : A) → length (slice_set xs n y) ≡ length xs
length_set [] n y = refl
length_set (x ∷ xs) zero y = refl
length_set (x ∷ xs) (suc n) y = ap suc (length_set xs n y)

-- the request's number fits its place
pub in_place : (asked : List Asked) (r : ReqId) (n : ℕ) → r.0 ≡ n + 1 → request_in asked r ≡ slice_get asked n
in_place asked r n at =
    let some : (r.0 == 0) ≡ false = grind (arith, nat_tests) in
    let place : r.0 - 1 ≡ n = omega (arith, at) in
    rw (some, place) refl

changed_there : (asked : List Asked) (n : ℕ) (f : Asked → Asked) (found : Option Asked) → slice_get asked n ≡ found → slice_get (option_map_or (λ q. slice_set asked n (f q)) found asked) n ≡ option_map f found
changed_there asked n f None at = at
changed_there asked n f (Some q) at = set_there asked n q (f q) at

changed_else : (asked : List Asked) (m n : ℕ) (f : Asked → Asked) (found : Option Asked) → m ≢ n → slice_get (option_map_or (λ q. slice_set asked m (f q)) found asked) n ≡ slice_get asked n
changed_else asked m n f None other = refl
changed_else asked m n f (Some q) other = set_else asked m n (f q) other

pub on_request_same : (asked : List Asked) (r : ReqId) (n : ℕ) (f : Asked → Asked) → r.0 ≡ n + 1 → slice_get (on_request r f asked) n ≡ option_map f (slice_get asked n)
on_request_same asked r n f at =
    let place : r.0 - 1 ≡ n = omega (arith, at) in
    rw (in_place asked r n at, place) (changed_there asked n f (slice_get asked n) refl)

on_request_other : (asked : List Asked) (r : ReqId) (n : ℕ) (f : Asked → Asked) → r.0 ≢ n + 1 → slice_get (on_request r f asked) n ≡ slice_get asked n
on_request_other asked r n f other = by_number (r.0 == 0) refl
  where
    by_number : (b : Bool) → (r.0 == 0) ≡ b → slice_get (option_map_or (λ q. slice_set asked (r.0 - 1) (f q)) (cond (r.0 == 0) None (slice_get asked (r.0 - 1))) asked) n ≡ slice_get asked n
    by_number true at = rw at refl
    by_number false at = rw at (changed_else asked (r.0 - 1) n f (slice_get asked (r.0 - 1)) (let some : 0 < r.0 = grind (arith, nat_tests) in omega (arith, some)))

length-on_request : (asked : List Asked) (r : ReqId) (f : Asked → Asked) → length (on_request r f asked) ≡ length asked
length-on_request asked r f = by_found (request_in asked r)
  where
    by_found : (found : Option Asked) → length (option_map_or (λ q. slice_set asked (r.0 - 1) (f q)) found asked) ≡ length asked
    by_found None = refl
    by_found (Some q) = length_set asked (r.0 - 1) (f q)

-- ---- what a prompt depends on

abbrev pub was_dropped : Option Ending → Bool
was_dropped (Some (endings.Dropped cause)) = true
was_dropped _ = false

abbrev pub Face : Type 0
Face = Bool × Bool × Bool

abbrev pub face : Asked → Face
face q = (is_some q.prompted, is_some q.answered, was_dropped q.ending)

abbrev pub reader_from : ℕ → Option Face → PromptReader
reader_from left None = record { left = left; is_prompted = false; is_answered = false; is_dropped = false }
reader_from left (Some f) = record { left = left; is_prompted = f.0; is_answered = f.1; is_dropped = f.2 }

-- what the requests say of the one at a place
abbrev pub reader_of : ℕ → List Asked → PromptReader
reader_of n asked = reader_from ((n + 1) - length asked) (option_map face (slice_get asked n))

abbrev pub with_face : (Face → Face) → PromptReader → PromptReader
with_face g p = let f = g (p.is_prompted, p.is_answered, p.is_dropped) in record p { is_prompted = f.0; is_answered = f.1; is_dropped = f.2 }

-- a change of one request
set_law : (asked : List Asked) (req r : ReqId) (n : ℕ) (f : Asked → Asked) (g : Face → Face) → ((q : Asked) → face (f q) ≡ g (face q)) → req.0 ≡ n + 1 → reader_of n (on_request r f asked) ≡ cond (is_told req r (reader_of n asked)) (with_face g (reader_of n asked)) (reader_of n asked)
set_law asked req r n f g fits at = by_test (r.0 == req.0) refl (slice_get asked n) refl
  where
    by_test : (b : Bool) → (r.0 == req.0) ≡ b → (found : Option Asked) → slice_get asked n ≡ found → reader_of n (on_request r f asked) ≡ cond (is_told req r (reader_of n asked)) (with_face g (reader_of n asked)) (reader_of n asked)
    by_test false other found is =
        let apart : r.0 ≢ n + 1 = grind (arith, nat_tests) in
        rw (other, length-on_request asked r f, on_request_other asked r n f apart) refl
    by_test true same None is =
        let here : r.0 ≡ n + 1 = grind (arith, nat_tests) in
        let past : length asked ≤ n = none_past asked n is in
        let left : ((n + 1) - length asked == 0) ≡ false = grind (arith, nat_tests) in
        rw (same, length-on_request asked r f, on_request_same asked r n f here, is, left) refl
    by_test true same (Some q) is =
        let here : r.0 ≡ n + 1 = grind (arith, nat_tests) in
        let within : n < length asked = slice_get_within asked n q is in
        let left : (n + 1) - length asked ≡ 0 = omega (arith, within) in
        rw (same, length-on_request asked r f, on_request_same asked r n f here, is, left, ← fits q) refl

-- a change that no prompt depends on
abbrev pub KeepsFace : (Asked → Asked) → Type 0
KeepsFace f = (q : Asked) → face (f q) ≡ face q

keep_law : (asked : List Asked) (r : ReqId) (n : ℕ) (f : Asked → Asked) → KeepsFace f → reader_of n (on_request r f asked) ≡ reader_of n asked
keep_law asked r n f keeps =
    set_law asked (record { 0 = n + 1 }) r n f (λ (x : Face). x) keeps refl ∙ either (is_told (record { 0 = n + 1 }) r (reader_of n asked))
  where
    either : (b : Bool) → cond b (reader_of n asked) (reader_of n asked) ≡ reader_of n asked
    either true = refl
    either false = refl

served_law : (asked : List Asked) (why : Why) (n : ℕ) (f : Asked → Asked) → KeepsFace f → reader_of n (on_served why f asked) ≡ reader_of n asked
served_law asked (whys.Req req) n f keeps = keep_law asked req n f keeps
served_law asked (whys.Death death) n f keeps = refl
served_law asked whys.Evict n f keeps = refl
served_law asked whys.Start n f keeps = refl

-- ---- what an order, its answer and the report of it add

served_keeps : (s : Seen) (job : Job) (task : Task) → KeepsFace (request_served s job task)
served_keeps s job (tasks.Activate entry epoch length index memo address) q = by_found (document_of s job.doc)
  where
    by_found : (found : Option Document) → face (option_map_or (λ (d : Document). with_activated d.nav (with_moved (option_map_or (sleepers_below s job.doc) (place_of s d.nav) []) q)) found q) ≡ face q
    by_found None = refl
    by_found (Some d) = refl
served_keeps s job tasks.Freeze q = refl
served_keeps s job tasks.Discard q = refl
served_keeps s job (tasks.Ask slot cause) q = refl
served_keeps s job (tasks.Populate nav state address initial) q = refl
served_keeps s job (tasks.Update length index) q = refl
served_keeps s job (tasks.DoFragment req mode address) q = refl

sent_law : (s : Seen) (job : Job) (task : Task) (asked : List Asked) (n : ℕ) → reader_of n (requests_sent s job task asked) ≡ reader_of n asked
sent_law s job (tasks.DoFragment req mode address) asked n = keep_law asked req n _ (λ q. refl)
sent_law s job (tasks.Activate entry epoch length index memo address) asked n = served_law asked job.why n _ (served_keeps s job (tasks.Activate entry epoch length index memo address))
sent_law s job tasks.Freeze asked n = served_law asked job.why n _ (served_keeps s job tasks.Freeze)
sent_law s job tasks.Discard asked n = served_law asked job.why n _ (served_keeps s job tasks.Discard)
sent_law s job (tasks.Ask slot cause) asked n = served_law asked job.why n _ (served_keeps s job (tasks.Ask slot cause))
sent_law s job (tasks.Populate nav state address initial) asked n = refl
sent_law s job (tasks.Update length index) asked n = refl

fragment_law : (s : Seen) (order : Order) (task : Task) (asked : List Asked) (n : ℕ) → order.job.task ≡ task → reader_of n (requests_finished s (Some order) outcomes.Fragmented asked) ≡ reader_of n asked
fragment_law s order (tasks.DoFragment req mode address) asked n is = rw is (keep_law asked req n _ (λ q. refl))
fragment_law s order (tasks.Activate entry epoch length index memo address) asked n is = rw is refl
fragment_law s order tasks.Freeze asked n is = rw is refl
fragment_law s order tasks.Discard asked n is = rw is refl
fragment_law s order (tasks.Ask slot cause) asked n is = rw is refl
fragment_law s order (tasks.Populate nav state address initial) asked n is = rw is refl
fragment_law s order (tasks.Update length index) asked n is = rw is refl

finished_law : (s : Seen) (order : Option Order) (outcome : Outcome) (asked : List Asked) (n : ℕ) → reader_of n (requests_finished s order outcome asked) ≡ reader_of n asked
finished_law s None outcome asked n = refl
finished_law s (Some order) (outcomes.Asked verdict) asked n = served_law asked order.job.why n _ (λ q. refl)
finished_law s (Some order) outcomes.Fragmented asked n = fragment_law s order order.job.task asked n refl
finished_law s (Some order) (outcomes.Populated slot) asked n = refl
finished_law s (Some order) outcomes.Activated asked n = refl
finished_law s (Some order) outcomes.Updated asked n = refl
finished_law s (Some order) outcomes.Frozen asked n = refl
finished_law s (Some order) outcomes.Discarded asked n = refl

delivered_law : (report : Option Report) (asked : List Asked) (n : ℕ) → reader_of n (requests_delivered report asked) ≡ reader_of n asked
delivered_law None asked n = refl
delivered_law (Some (reports.Done job (outcomes.Asked verdict) made)) asked n = served_law asked job.why n _ (λ q. refl)
delivered_law (Some (reports.Done job (outcomes.Populated slot) made)) asked n = refl
delivered_law (Some (reports.Done job outcomes.Activated made)) asked n = refl
delivered_law (Some (reports.Done job outcomes.Updated made)) asked n = refl
delivered_law (Some (reports.Done job outcomes.Frozen made)) asked n = refl
delivered_law (Some (reports.Done job outcomes.Discarded made)) asked n = refl
delivered_law (Some (reports.Done job outcomes.Fragmented made)) asked n = refl
delivered_law (Some (reports.Made made)) asked n = refl
delivered_law (Some (reports.Died death)) asked n = refl

-- ---- each row

flags_stay : (asked : List Asked) (n left : ℕ) (r : ReqId) (doc : Option DocId) (what : Request) → reader_from left (option_map face (slice_get (asked ++ new_request r doc what ∷ []) n)) ≡ reader_from left (option_map face (slice_get asked n))
flags_stay [] zero left r doc what = refl
flags_stay [] (suc n) left r doc what = refl
flags_stay (first ∷ asked) zero left r doc what = refl
flags_stay (first ∷ asked) (suc n) left r doc what = flags_stay asked n left r doc what

one_less : (left : ℕ) (o : Option Face) → reader_from (left - 1) o ≡ record (reader_from left o) { left = (reader_from left o).left - 1 }
one_less left None = refl
one_less left (Some f) = refl

accepted_law : (asked : List Asked) (n : ℕ) (r : ReqId) (doc : Option DocId) (what : Request) → reader_of n (asked ++ new_request r doc what ∷ []) ≡ record (reader_of n asked) { left = (reader_of n asked).left - 1 }
accepted_law asked n r doc what =
    let longer : (n + 1) - length (asked ++ new_request r doc what ∷ []) ≡ ((n + 1) - length asked) - 1 = omega (arith, length-append asked (new_request r doc what ∷ [])) in
    ap (λ (k : ℕ). reader_from k (option_map face (slice_get (asked ++ new_request r doc what ∷ []) n))) longer
    ∙ flags_stay asked n (((n + 1) - length asked) - 1) r doc what
    ∙ one_less ((n + 1) - length asked) (option_map face (slice_get asked n))

row_law : (s : Seen) (req : ReqId) (n : ℕ) (kind : RowKind) → req.0 ≡ n + 1 → reader_of n (requests_told s kind (requests_after s.requests kind)) ≡ prompt_after req (reader_of n s.requests) kind
row_law s req n (rows.Accepted r doc what) at = accepted_law s.requests n r doc what
row_law s req n (rows.Started r goal) at = keep_law _ r n _ (λ q. refl) ∙ keep_law s.requests r n _ (λ q. refl)
row_law s req n (rows.Applied r change) at =
    keep_law _ r n _ (λ q. refl) ∙ keep_law _ r n _ (λ q. refl) ∙ set_law s.requests req r n _ (λ (f : Face). (f.0, f.1, false)) (λ q. refl) at
row_law s req n (rows.Refused r reason) at = set_law s.requests req r n _ (λ (f : Face). (f.0, f.1, false)) (λ q. refl) at
row_law s req n (rows.Dropped r cause) at = set_law s.requests req r n _ (λ (f : Face). (f.0, f.1, true)) (λ q. refl) at
row_law s req n (rows.Prompted r doc) at = set_law s.requests req r n _ (λ (f : Face). (true, f.1, f.2)) (λ q. refl) at
row_law s req n (rows.Answered r stay) at = set_law s.requests req r n _ (λ (f : Face). (f.0, true, f.2)) (λ q. refl) at
row_law s req n (rows.Made proc made) at = keep_law s.requests made.req n _ (λ q. refl)
row_law s req n (rows.Sent job) at = sent_law s job job.task s.requests n
row_law s req n (rows.Finished proc job outcome) at = finished_law s (desk_of s proc).in_hand outcome s.requests n
row_law s req n (rows.Delivered proc) at = delivered_law (slice_get (desk_of s proc).reports 0) s.requests n
row_law s req n (rows.Opened entry state doc proc slot address) at = refl
row_law s req n (rows.Taken proc job live dirty) at = refl
row_law s req n (rows.Killed proc death) at = refl
row_law s req n (rows.Evicted state) at = refl

-- ---- the log

ands : {A : Type 0} (b : Bool) (o : Option A) → (b && is_none o && true) ≡ (b && (not (is_some o) && true))
ands true None = refl
ands true (Some a) = refl
ands false o = refl

nor : {A : Type 0} (b : Bool) (o : Option A) → (b && is_none o && false) ≡ (b && (not (is_some o) && false))
nor true None = refl
nor true (Some a) = refl
nor false o = refl

up_of : (q : Asked) (ending : Option Ending) → q.ending ≡ ending → is_prompt_up q ≡ reads_up (reader_from 0 (Some (face q)))
up_of q None is = rw is (ands (is_some q.prompted) q.answered)
up_of q (Some endings.Applied) is = rw is (ands (is_some q.prompted) q.answered)
up_of q (Some (endings.Refused reason)) is = rw is (ands (is_some q.prompted) q.answered)
up_of q (Some (endings.Dropped cause)) is = rw is (nor (is_some q.prompted) q.answered)

read_at : (asked : List Asked) (req : ReqId) (n left : ℕ) (found : Option Asked) → req.0 ≡ n + 1 → slice_get asked n ≡ found → reads_up (reader_from left (option_map face (slice_get asked n))) ≡ holds is_prompt_up (request_in asked req)
read_at asked req n left None at is = rw (in_place asked req n at, is) refl
read_at asked req n left (Some q) at is = rw (in_place asked req n at, is) (sym (up_of q q.ending refl))

-- what is kept after rows
abbrev pub read_on : ReqId → PromptReader → List LogRow → PromptReader
read_on req p rows = fold (λ (p : PromptReader) (row : LogRow). prompt_after req p row.row) p rows

pub read_fold : (req : ReqId) (n : ℕ) (rows : List LogRow) (s : Seen) (p : PromptReader) → req.0 ≡ n + 1 → p ≡ reader_of n s.requests → read_on req p rows ≡ reader_of n (fold after s rows).requests
read_fold req n [] s p at is = is
read_fold req n (row ∷ rows) s p at is =
    read_fold req n rows (after s row) (prompt_after req p row.row) at (ap (λ (q : PromptReader). prompt_after req q row.row) is ∙ sym (row_law s req n row.row at))

-- ---- the loop

-- the prompt of a whole log
pub prompt_read : (req : ReqId) (p : PromptReader) (i : ℕ) (log : List LogRow) → req.0 ≢ 0 → length log ≤ i → read_on req p (drop i log) ≡ read_on req (no_prompt req) log → reads_up p ≡ holds is_prompt_up (request_of (seen_of log) req)
unfolding seen_of
prompt_read req p i log some past are =
    let n : ℕ = req.0 - 1 in
    let at : req.0 ≡ n + 1 = omega (arith, some) in
    let start : no_prompt req ≡ reader_of n [] = ap (λ (k : ℕ). reader_from k None) (let whole : req.0 ≡ (n + 1) - 0 = omega (arith, at) in whole) in
    let done : read_on req p (drop i log) ≡ p = ap (λ (l : List LogRow). read_on req p l) (let none : drop i log ≡ [] = grind (arith, common_steps) in none) in
    let whole : p ≡ reader_of n (fold after nothing log).requests = sym done ∙ are ∙ read_fold req n log nothing (no_prompt req) at start in
    ap reads_up whole ∙ read_at (fold after nothing log).requests req n _ (slice_get (fold after nothing log).requests n) at refl
