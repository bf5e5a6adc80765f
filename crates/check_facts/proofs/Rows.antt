-- What each kind of row leaves of the questions: who was asked, what was settled, and who was dropped.
use Rattle.std.proofs.Common.{◌≡◌, ℕ, Bool, true, false, ◌||◌, ◌==◌, List, [], ◌∷◌, map, Option, Some, None, refl, sym, ap, ◌∙◌, subst, arith}
use Rattle.std.specs.Prelude.{option_map, slice_get}
use Rattle.std.specs.List.{list_all}
use Rattle.std.proofs.lemmas.Bool.{and_parts}
use Rattle.std.proofs.lemmas.Bool.Decides.{nat_tests}
use Rattle.tab_ids.specs.declared.DocId.{DocId}
use Rattle.tab_ids.specs.declared.ReqId.{ReqId}
use Rattle.tab_ids.specs.declared.ProcId.{ProcId}
use Rattle.tab_ids.specs.declared.Step.{Step}
use Rattle.log_model.specs.declared.change.Change.{Change}
use Rattle.log_model.specs.declared.job.Job.{Job}
use Rattle.log_model.specs.declared.job.Task.{Task}
use Rattle.log_model.specs.declared.job.Task.TheVariants as tasks
use Rattle.log_model.specs.declared.job.Why.{Why}
use Rattle.log_model.specs.declared.job.Why.TheVariants as whys
use Rattle.log_model.specs.declared.made.Report.{Report}
use Rattle.log_model.specs.declared.made.Report.TheVariants as reports
use Rattle.log_model.specs.declared.outcome.Cause.{Cause}
use Rattle.log_model.specs.declared.outcome.Denial.{Denial}
use Rattle.log_model.specs.declared.outcome.Ending.{Ending}
use Rattle.log_model.specs.declared.outcome.Ending.TheVariants as endings
use Rattle.log_model.specs.declared.outcome.Outcome.{Outcome}
use Rattle.log_model.specs.declared.outcome.Outcome.TheVariants as outcomes
use Rattle.log_model.specs.declared.row_kind.Actor.{Actor}
use Rattle.log_model.specs.declared.row_kind.LogRow.{LogRow}
use Rattle.log_model.specs.declared.row_kind.RowKind.{RowKind}
use Rattle.log_model.specs.declared.row_kind.RowKind.TheVariants as rows
use Rattle.log_model.specs.Equal.{holds}
use Rattle.log_model.specs.Outcomes.{is_drop}
use Rattle.log_model.specs.Seen.{Seen, Document, Asked, Asking, document_of, desk_of, request_in, request_of}
use Rattle.log_model.specs.After.{after, ended}
use Rattle.log_model.specs.AfterRequests.{entries_taken, on_request, on_served, request_begun, request_served, requests_delivered, requests_sent}
use Rattle.log_model.specs.Places.{is_gone, is_settled_asking}
use Rattle.seen_facts.proofs.Coord.Held.{on_else}
use Rattle.seen_facts.proofs.Each.Courses.{is_asked}
use Rattle.seen_facts.proofs.Request.LookUps.{on_itself}
use Rattle.seen_facts.proofs.Request.Readers.{SameReads, on_read, reads_then}
use Rattle.check_facts.proofs.Gones.{row_gone}
use Rattle.check_facts.specs.Prompting.{DropsNone, KeepsQuestions, silent}
use Rattle.check_facts.specs.Rows.{IsNoAnswer, IsNoAnswerOf, IsNoQuestion, IsUndropped}

-- ---- from the requests before a row and after it

-- a request's number, its questions, and its prompt
pub record Plain : Type 0 where
  pub nr : ReqId
  pub asks : List Asking
  pub prompted : Option DocId

abbrev pub plain_of : Asked → Plain
plain_of q = record { nr = q.nr; asks = q.asks; prompted = q.prompted }

abbrev pub is_dropped : Asked → Bool
is_dropped q = holds is_drop q.ending

-- who was dropped is
abbrev pub DropsStay : Seen → Seen → Type 0
DropsStay s t =
    (req : ReqId) (q r : Asked) → request_of s req ≡ Some q → request_of t req ≡ Some r → is_dropped q ≡ true → is_dropped r ≡ true

-- where more documents are gone, what was settled is
pub settled_more : (s t : Seen) (asks : List Asking) → ((doc : DocId) → is_gone s doc ≡ true → is_gone t doc ≡ true) → list_all (is_settled_asking (is_gone s)) asks ≡ true → list_all (is_settled_asking (is_gone t)) asks ≡ true
settled_more s t [] more e = refl
settled_more s t (asking ∷ asks) more e =
    let parts = and_parts (is_settled_asking (is_gone s) asking) (list_all (is_settled_asking (is_gone s)) asks) e in
    rw (one asking.is_delivered (is_gone s asking.doc) refl parts.0, settled_more s t asks more parts.1) refl
  where
    one : (b g : Bool) → is_gone s asking.doc ≡ g → (b || g) ≡ true → (b || is_gone t asking.doc) ≡ true
    one true g is f = refl
    one false true is f = more asking.doc is
    one false false is f = cc

pub keeps_plain : (s t : Seen) → SameReads plain_of s.requests t.requests → DropsStay s t → ((doc : DocId) → is_gone s doc ≡ true → is_gone t doc ≡ true) → KeepsQuestions s t
keeps_plain s t reads drops gone =
    record {
      later = λ req q found. let r = is_asked plain_of s.requests t.requests reads req q found in (record {
        after_ = r.0;
        found = r.1;
        same = record {
          nr = ap (λ (x : Plain). x.nr) r.2;
          asks = ap (λ (x : Plain). map silent x.asks) r.2;
          prompted = ap (λ (x : Plain). x.prompted) r.2;
          dropped = drops req q r.0 found r.1;
        };
        settled = λ all. ap (λ (x : Plain). list_all (is_settled_asking (is_gone t)) x.asks) r.2 ∙ settled_more s t q.asks gone all;
      });
      gone = gone;
    }

some_same : {A : Type 0} {a b : A} → (let o : Option A = Some a in o) ≡ Some b → a ≡ b
some_same e = cc

pub drops_none : (s t : Seen) → SameReads is_dropped s.requests t.requests → DropsNone s t
drops_none s t reads req q r found then =
    some_same (sym (ap (λ (o : Option Asked). option_map is_dropped o) then) ∙ reads req ∙ ap (λ (o : Option Asked). option_map is_dropped o) found)

pub drops_stay : (s t : Seen) → DropsNone s t → DropsStay s t
drops_stay s t none req q r found then is = none req q r found then ∙ is

-- ---- an order that is no question

-- a reader of requests that doesn't look at what is moved for one, or at its fragment order
pub record IsUnmoved {B : Type 0} (read : Asked → B) : Type 0 where
  pub moves : (s : Seen) (job : Job) (task : Task) (q : Asked) → IsNoQuestion task → read (request_served s job task q) ≡ read q
  pub fragments : (q : Asked) (doc : Option DocId) → read (record q { fragment = doc }) ≡ read q

plain_moves : (s : Seen) (job : Job) (task : Task) (q : Asked) → IsNoQuestion task → plain_of (request_served s job task q) ≡ plain_of q
plain_moves s job (tasks.Activate entry epoch length index memo address) q none = by_document (document_of s job.doc) refl
  where
    by_document : (o : Option Document) → document_of s job.doc ≡ o → plain_of (request_served s job (tasks.Activate entry epoch length index memo address) q) ≡ plain_of q
    by_document None e = rw e refl
    by_document (Some d) e = rw e refl
plain_moves s job tasks.Freeze q none = refl
plain_moves s job tasks.Discard q none = refl
plain_moves s job (tasks.Ask slot cause) q none = absurd none
plain_moves s job (tasks.Populate nav state address initial) q none = refl
plain_moves s job (tasks.Update length index) q none = refl
plain_moves s job (tasks.DoFragment req mode address) q none = refl

dropped_moves : (s : Seen) (job : Job) (task : Task) (q : Asked) → IsNoQuestion task → is_dropped (request_served s job task q) ≡ is_dropped q
dropped_moves s job (tasks.Activate entry epoch length index memo address) q none =
    by_document (document_of s job.doc) refl
  where
    by_document : (o : Option Document) → document_of s job.doc ≡ o → is_dropped (request_served s job (tasks.Activate entry epoch length index memo address) q) ≡ is_dropped q
    by_document None e = rw e refl
    by_document (Some d) e = rw e refl
dropped_moves s job tasks.Freeze q none = refl
dropped_moves s job tasks.Discard q none = refl
dropped_moves s job (tasks.Ask slot cause) q none = absurd none
dropped_moves s job (tasks.Populate nav state address initial) q none = refl
dropped_moves s job (tasks.Update length index) q none = refl
dropped_moves s job (tasks.DoFragment req mode address) q none = refl

module _ {B : Type 0} (read : Asked → B) where
  served_reads : (why : Why) (f : Asked → Asked) (asked : List Asked) → ((q : Asked) → read (f q) ≡ read q) → SameReads read asked (on_served why f asked)
  served_reads (whys.Req req) f asked same = on_read read asked req f same
  served_reads (whys.Death death) f asked same = λ r. refl
  served_reads whys.Evict f asked same = λ r. refl
  served_reads whys.Start f asked same = λ r. refl

  pub sent_same : IsUnmoved read → (s : Seen) (job : Job) (task : Task) (asked : List Asked) → IsNoQuestion task → SameReads read asked (requests_sent s job task asked)
  sent_same unmoved s job (tasks.DoFragment req mode address) asked none =
      on_read read asked req (λ q. record q { fragment = Some job.doc }) (λ q. unmoved.fragments q (Some job.doc))
  sent_same unmoved s job (tasks.Populate nav state address initial) asked none = λ r. refl
  sent_same unmoved s job (tasks.Update length index) asked none = λ r. refl
  sent_same unmoved s job (tasks.Activate entry epoch length index memo address) asked none =
      served_reads job.why (request_served s job (tasks.Activate entry epoch length index memo address)) asked (λ q. unmoved.moves s job (tasks.Activate entry epoch length index memo address) q none)
  sent_same unmoved s job tasks.Freeze asked none =
      served_reads job.why (request_served s job tasks.Freeze) asked (λ q. unmoved.moves s job tasks.Freeze q none)
  sent_same unmoved s job tasks.Discard asked none =
      served_reads job.why (request_served s job tasks.Discard) asked (λ q. unmoved.moves s job tasks.Discard q none)
  sent_same unmoved s job (tasks.Ask slot cause) asked none = absurd none

-- a report that tells no answer
delivered_same : (report : Option Report) (asked : List Asked) → IsNoAnswer report → requests_delivered report asked ≡ asked
delivered_same None asked none = refl
delivered_same (Some (reports.Made made)) asked none = refl
delivered_same (Some (reports.Died death)) asked none = refl
delivered_same (Some (reports.Done job outcome made)) asked none = by_outcome outcome none
  where
    by_outcome : (o : Outcome) → IsNoAnswerOf o → requests_delivered (Some (reports.Done job o made)) asked ≡ asked
    by_outcome (outcomes.Asked verdict) none = absurd none
    by_outcome (outcomes.Populated slot) none = refl
    by_outcome outcomes.Activated none = refl
    by_outcome outcomes.Updated none = refl
    by_outcome outcomes.Frozen none = refl
    by_outcome outcomes.Discarded none = refl
    by_outcome outcomes.Fragmented none = refl

-- ---- a request that ends

-- a change of one request, of which its read doesn't see anything
pub on_read_at : {B : Type 0} (read : Asked → B) (asked : List Asked) (req : ReqId) (f : Asked → Asked) → ((q : Asked) → request_in asked req ≡ Some q → read (f q) ≡ read q) → SameReads read asked (on_request req f asked)
on_read_at {B} read asked req f same r = by_number (r.0 == req.0) refl
  where
    by_found : (o : Option Asked) → request_in asked req ≡ o → option_map read (option_map f o) ≡ option_map read o
    by_found None e = refl
    by_found (Some q) e = ap (λ (b : B). let o : Option B = Some b in o) (same q e)

    by_number : (b : Bool) → (r.0 == req.0) ≡ b → option_map read (request_in (on_request req f asked) r) ≡ option_map read (request_in asked r)
    by_number false e = ap (λ (o : Option Asked). option_map read o) (on_else asked req f r e)
    by_number true e =
        let it : r ≡ req = ap (λ (n : ℕ). let y : ReqId = record { 0 = n } in y) (let n : r.0 ≡ req.0 = grind (arith, nat_tests, e) in n) in
        subst (λ (x : ReqId). option_map read (request_in (on_request req f asked) x) ≡ option_map read (request_in asked x)) (sym it) (ap (λ (o : Option Asked). option_map read o) (on_itself asked req f) ∙ by_found (request_in asked req) refl)

abbrev with_ending : Ending → Asked → Asked
with_ending ending q = record q { ending = Some ending }

-- it wasn't dropped, and isn't
ended_reads : (asked : List Asked) (req : ReqId) (ending : Ending) → is_drop ending ≡ false → ((q : Asked) → request_in asked req ≡ Some q → is_dropped q ≡ false) → SameReads is_dropped asked (ended asked req ending)
ended_reads asked req ending none was =
    on_read_at is_dropped asked req (with_ending ending) (λ q found. none ∙ sym (was q found))

module _ (s : Seen) (event : ℕ) (actor : Actor) where
  abbrev pub row_of_kind : RowKind → LogRow
  row_of_kind kind = record { event = event; actor = actor; row = kind }

  abbrev pub next : RowKind → Seen
  next kind = after s (row_of_kind kind)

  abbrev started : ReqId → Option Step → List Asked
  started req goal = on_request req (λ q. record q { is_started = true; goal = goal }) s.requests

  -- the change of a request is read by neither
  changed_reads : {B : Type 0} (read : Asked → B) (req : ReqId) (change : Change) (first : List Asked) → ((q : Asked) → read (record q { change = Some change }) ≡ read q) → ((q : Asked) → read (record q { took = entries_taken s.history change }) ≡ read q) → SameReads read first (on_request req (λ q. record q { took = entries_taken s.history change }) (on_request req (λ q. record q { change = Some change }) first))
  changed_reads read req change first changes took =
      reads_then read first (on_request req (λ q. record q { change = Some change }) first) _ (on_read read first req (λ q. record q { change = Some change }) changes) (on_read read (on_request req (λ q. record q { change = Some change }) first) req (λ q. record q { took = entries_taken s.history change }) took)

  told_same : (proc : ProcId) → IsNoAnswer (slice_get (desk_of s proc).reports 0) → (next (rows.Delivered proc)).requests ≡ s.requests
  told_same proc none = delivered_same (slice_get (desk_of s proc).reports 0) s.requests none

  -- ---- the questions and prompts of all requests are as they were

  pub sent_plain : (job : Job) → IsNoQuestion job.task → SameReads plain_of s.requests (next (rows.Sent job)).requests
  sent_plain job none =
      sent_same plain_of (record { moves = plain_moves; fragments = λ q doc. refl }) s job job.task s.requests none

  pub delivered_plain : (proc : ProcId) → IsNoAnswer (slice_get (desk_of s proc).reports 0) → SameReads plain_of s.requests (next (rows.Delivered proc)).requests
  delivered_plain proc none =
      subst (λ (l : List Asked). SameReads plain_of s.requests l) (sym (told_same proc none)) (λ r. refl)

  pub started_plain : (req : ReqId) (goal : Option Step) → SameReads plain_of s.requests (next (rows.Started req goal)).requests
  started_plain req goal =
      reads_then plain_of s.requests (started req goal) (next (rows.Started req goal)).requests (on_read plain_of s.requests req (λ q. record q { is_started = true; goal = goal }) (λ q. refl)) (on_read plain_of (started req goal) req (request_begun s) (λ q. refl))

  pub applied_plain : (req : ReqId) (change : Change) → SameReads plain_of s.requests (next (rows.Applied req change)).requests
  applied_plain req change =
      reads_then plain_of s.requests (ended s.requests req endings.Applied) (next (rows.Applied req change)).requests (on_read plain_of s.requests req (with_ending endings.Applied) (λ q. refl)) (changed_reads plain_of req change (ended s.requests req endings.Applied) (λ q. refl) (λ q. refl))

  pub refused_plain : (req : ReqId) (reason : Denial) → SameReads plain_of s.requests (next (rows.Refused req reason)).requests
  refused_plain req reason = on_read plain_of s.requests req (with_ending (endings.Refused reason)) (λ q. refl)

  pub dropped_plain : (req : ReqId) (cause : Cause) → SameReads plain_of s.requests (next (rows.Dropped req cause)).requests
  dropped_plain req cause = on_read plain_of s.requests req (with_ending (endings.Dropped cause)) (λ q. refl)

  pub answered_plain : (req : ReqId) (stay : Bool) → SameReads plain_of s.requests (next (rows.Answered req stay)).requests
  answered_plain req stay = on_read plain_of s.requests req (λ q. record q { answered = Some stay }) (λ q. refl)

  -- ---- nobody is dropped

  pub sent_drops : (job : Job) → IsNoQuestion job.task → DropsNone s (next (rows.Sent job))
  sent_drops job none =
      drops_none s (next (rows.Sent job)) (sent_same is_dropped (record { moves = dropped_moves; fragments = λ q doc. refl }) s job job.task s.requests none)

  pub delivered_drops : (proc : ProcId) → IsNoAnswer (slice_get (desk_of s proc).reports 0) → DropsNone s (next (rows.Delivered proc))
  delivered_drops proc none =
      drops_none s (next (rows.Delivered proc)) (subst (λ (l : List Asked). SameReads is_dropped s.requests l) (sym (told_same proc none)) (λ r. refl))

  pub started_drops : (req : ReqId) (goal : Option Step) → DropsNone s (next (rows.Started req goal))
  started_drops req goal =
      drops_none s (next (rows.Started req goal)) (reads_then is_dropped s.requests (started req goal) (next (rows.Started req goal)).requests (on_read is_dropped s.requests req (λ q. record q { is_started = true; goal = goal }) (λ q. refl)) (on_read is_dropped (started req goal) req (request_begun s) (λ q. refl)))

  pub applied_drops : (req : ReqId) (change : Change) → IsUndropped s req → DropsNone s (next (rows.Applied req change))
  applied_drops req change undropped =
      drops_none s (next (rows.Applied req change)) (reads_then is_dropped s.requests (ended s.requests req endings.Applied) (next (rows.Applied req change)).requests (ended_reads s.requests req endings.Applied refl undropped) (changed_reads is_dropped req change (ended s.requests req endings.Applied) (λ q. refl) (λ q. refl)))

  pub refused_drops : (req : ReqId) (reason : Denial) → IsUndropped s req → DropsNone s (next (rows.Refused req reason))
  refused_drops req reason undropped =
      drops_none s (next (rows.Refused req reason)) (ended_reads s.requests req (endings.Refused reason) refl undropped)

  pub answered_drops : (req : ReqId) (stay : Bool) → DropsNone s (next (rows.Answered req stay))
  answered_drops req stay =
      drops_none s (next (rows.Answered req stay)) (on_read is_dropped s.requests req (λ q. record q { answered = Some stay }) (λ q. refl))

  -- or one is, and those that were are still
  pub dropped_drops : (req : ReqId) (cause : Cause) → DropsStay s (next (rows.Dropped req cause))
  dropped_drops req cause r x y found then is = by_number (r.0 == req.0) refl
    where
      by_number : (b : Bool) → (r.0 == req.0) ≡ b → is_dropped y ≡ true
      by_number false e =
          let same : (let o : Option Asked = Some y in o) ≡ Some x = sym then ∙ on_else s.requests req (with_ending (endings.Dropped cause)) r e ∙ found in
          ap is_dropped (some_same same) ∙ is
      by_number true e =
          let it : r ≡ req = ap (λ (n : ℕ). let z : ReqId = record { 0 = n } in z) (let n : r.0 ≡ req.0 = grind (arith, nat_tests, e) in n) in
          let own : request_in s.requests req ≡ Some x = subst (λ (z : ReqId). request_in s.requests z ≡ Some x) it found in
          let now : request_in (ended s.requests req (endings.Dropped cause)) req ≡ Some (with_ending (endings.Dropped cause) x) = on_itself s.requests req (with_ending (endings.Dropped cause)) ∙ ap (λ (o : Option Asked). option_map (with_ending (endings.Dropped cause)) o) own in
          let mine : request_in (ended s.requests req (endings.Dropped cause)) req ≡ Some y = subst (λ (z : ReqId). request_in (ended s.requests req (endings.Dropped cause)) z ≡ Some y) it then in
          ap is_dropped (sym (some_same (sym now ∙ mine)))

  -- ---- so nobody is asked, and what was settled is

  pub sent_keeps : (job : Job) → IsNoQuestion job.task → KeepsQuestions s (next (rows.Sent job))
  sent_keeps job none =
      keeps_plain s (next (rows.Sent job)) (sent_plain job none) (drops_stay s (next (rows.Sent job)) (sent_drops job none)) (row_gone s event actor (rows.Sent job) tt)

  pub delivered_keeps : (proc : ProcId) → IsNoAnswer (slice_get (desk_of s proc).reports 0) → KeepsQuestions s (next (rows.Delivered proc))
  delivered_keeps proc none =
      keeps_plain s (next (rows.Delivered proc)) (delivered_plain proc none) (drops_stay s (next (rows.Delivered proc)) (delivered_drops proc none)) (row_gone s event actor (rows.Delivered proc) tt)

  pub started_keeps : (req : ReqId) (goal : Option Step) → KeepsQuestions s (next (rows.Started req goal))
  started_keeps req goal =
      keeps_plain s (next (rows.Started req goal)) (started_plain req goal) (drops_stay s (next (rows.Started req goal)) (started_drops req goal)) (row_gone s event actor (rows.Started req goal) tt)

  pub applied_keeps : (req : ReqId) (change : Change) → IsUndropped s req → KeepsQuestions s (next (rows.Applied req change))
  applied_keeps req change undropped =
      keeps_plain s (next (rows.Applied req change)) (applied_plain req change) (drops_stay s (next (rows.Applied req change)) (applied_drops req change undropped)) (row_gone s event actor (rows.Applied req change) tt)

  pub refused_keeps : (req : ReqId) (reason : Denial) → IsUndropped s req → KeepsQuestions s (next (rows.Refused req reason))
  refused_keeps req reason undropped =
      keeps_plain s (next (rows.Refused req reason)) (refused_plain req reason) (drops_stay s (next (rows.Refused req reason)) (refused_drops req reason undropped)) (row_gone s event actor (rows.Refused req reason) tt)

  pub dropped_keeps : (req : ReqId) (cause : Cause) → KeepsQuestions s (next (rows.Dropped req cause))
  dropped_keeps req cause =
      keeps_plain s (next (rows.Dropped req cause)) (dropped_plain req cause) (dropped_drops req cause) (row_gone s event actor (rows.Dropped req cause) tt)

  pub answered_keeps : (req : ReqId) (stay : Bool) → KeepsQuestions s (next (rows.Answered req stay))
  answered_keeps req stay =
      keeps_plain s (next (rows.Answered req stay)) (answered_plain req stay) (drops_stay s (next (rows.Answered req stay)) (answered_drops req stay)) (row_gone s event actor (rows.Answered req stay) tt)
