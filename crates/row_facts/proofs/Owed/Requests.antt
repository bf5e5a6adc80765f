-- What rows leave of each request: what it asks, whether it has begun, what the user answered, and whom it asked.
use Rattle.seen_facts.proofs.Coord.Held.{on_else}
use Rattle.seen_facts.proofs.Each.Courses.{is_asked}
use Rattle.log_model.specs.AfterRequests.{on_request, on_served, request_served, requests_sent}
use Rattle.log_model.specs.Orders.{is_question}
use Rattle.log_model.specs.Seen.{Asked, Asking, Document, Seen, document_of, request_in, request_of}
use Rattle.log_model.specs.declared.change.Change.{Change}
use Rattle.log_model.specs.declared.job.Job.{Job}
use Rattle.log_model.specs.declared.job.Task.{Task}
use Rattle.log_model.specs.declared.job.Why.{Why}
use Rattle.log_model.specs.declared.request.Request.{Request}
use Rattle.log_model.specs.declared.row_kind.Actor.{Actor}
use Rattle.row_facts.specs.Owed.Owed.{IsStill}
use Rattle.seen_facts.proofs.Request.LookUps.{on_itself}
use Rattle.seen_facts.proofs.Request.Readers.{IsBlind, SameReads, on_read}
use Rattle.std.proofs.Common.{Bool, List, None, Option, Some, ap, arith, false, refl, subst, sym, true, ℕ, ◌==◌, ◌∙◌, ◌≡◌}
use Rattle.std.proofs.lemmas.Bool.Decides.{nat_tests}
use Rattle.std.proofs.lemmas.Option.{same_Some}
use Rattle.std.specs.Prelude.{option_map}
use Rattle.tab_ids.specs.declared.DocId.{DocId}
use Rattle.tab_ids.specs.declared.ReqId.{ReqId}
use Rattle.log_model.specs.declared.job.Task.TheVariants as tasks
use Rattle.log_model.specs.declared.job.Why.TheVariants as whys
use Rattle.log_model.specs.declared.row_kind.RowKind.TheVariants as rows

-- ---- what is read of a request

-- its number, what it asks, and whether it has begun
pub record Still : Type 0 where
  pub nr : ReqId
  pub what : Request
  pub is_started : Bool

-- these, of a request
abbrev pub still : Asked → Still
still q = record { nr = q.nr; what = q.what; is_started = q.is_started }

-- no order changes them
pub still_blind : IsBlind still
still_blind =
    record {
      moves = λ q activated moved. refl;
      asks = λ q asks. refl;
      fragments = λ q doc. refl;
      misses = λ q is. refl;
    }

-- whether the user was asked, the answer, and its applied change
pub record Told : Type 0 where
  pub prompted : Option DocId
  pub answered : Option Bool
  pub change : Option Change

-- these, of a request
abbrev pub told_of : Asked → Told
told_of q = record { prompted = q.prompted; answered = q.answered; change = q.change }

-- no order changes them, either
pub told_blind : IsBlind told_of
told_blind =
    record {
      moves = λ q activated moved. refl;
      asks = λ q asks. refl;
      fragments = λ q doc. refl;
      misses = λ q is. refl;
    }

-- where the same is read of each request, it is the same of this one
pub read_same : {B : Type 0} (read : Asked → B) (asked next_ : List Asked) → SameReads read asked next_ → (req : ReqId) (q r : Asked) → request_in asked req ≡ Some q → request_in next_ req ≡ Some r → read r ≡ read q
read_same read asked next_ same req q r at there =
    same_Some _ _ (sym (ap (λ (o : Option Asked). option_map read o) there) ∙ same req ∙ ap (λ (o : Option Asked). option_map read o) at)

-- where number, kind and beginning are the same, each request is there still
pub still_there : (s t : Seen) → SameReads still s.requests t.requests → (req : ReqId) (q : Asked) → request_of s req ≡ Some q → IsStill t req q
still_there s t same req q at =
    let it = is_asked still s.requests t.requests same req q at in
    record {
      r = it.0;
      at = it.1;
      what = ap (λ (x : Still). x.what) it.2;
      nr = ap (λ (x : Still). x.nr) it.2;
      began = λ is. ap (λ (x : Still). x.is_started) it.2 ∙ is;
    }

-- ---- a change of one request

-- equal numbers are of one request
pub req_same : (a b : ReqId) → (a.0 == b.0) ≡ true → a ≡ b
req_same a b is =
    let n : a.0 ≡ b.0 = grind (arith, nat_tests, is) in ap (λ (i : ℕ). let x : ReqId = record { 0 = i } in x) n

-- one that leaves what is read of it as it is
pub found_read : {B : Type 0} (read : Asked → B) (asked : List Asked) (req : ReqId) (f : Asked → Asked) → ((q : Asked) → request_in asked req ≡ Some q → read (f q) ≡ read q) → SameReads read asked (on_request req f asked)
found_read {B} read asked req f same r = by_number (r.0 == req.0) refl
  where
    by_found : (o : Option Asked) → request_in asked req ≡ o → option_map read (option_map f o) ≡ option_map read o
    by_found None at = refl
    by_found (Some q) at = ap (λ (b : B). Some b) (same q at)

    by_number : (b : Bool) → (r.0 == req.0) ≡ b → option_map read (request_in (on_request req f asked) r) ≡ option_map read (request_in asked r)
    by_number true is =
        subst (λ (x : ReqId). option_map read (request_in (on_request req f asked) x) ≡ option_map read (request_in asked x)) (sym (req_same r req is)) (ap (λ (o : Option Asked). option_map read o) (on_itself asked req f) ∙ by_found (request_in asked req) refl)
    by_number false is = ap (λ (o : Option Asked). option_map read o) (on_else asked req f r is)

-- ---- orders that ask no document

-- the task asks nothing
abbrev pub AsksNone : Task → Type 0
AsksNone (tasks.Ask slot cause) = ⊥
AsksNone _ = Unit {0}

-- so it is with the task of an order that is no question
pub asks_none : (event : ℕ) (actor : Actor) (job : Job) (task : Task) → job.task ≡ task → is_question (record { event = event; actor = actor; row = rows.Sent job }) ≡ false → AsksNone task
asks_none event actor job (tasks.Ask slot cause) is quiet =
    let asks : is_question (record { event = event; actor = actor; row = rows.Sent job }) ≡ true = rw is refl in absurd cc
asks_none event actor job (tasks.Activate entry epoch length index memo address) is quiet = tt
asks_none event actor job tasks.Freeze is quiet = tt
asks_none event actor job tasks.Discard is quiet = tt
asks_none event actor job (tasks.Populate nav state address initial) is quiet = tt
asks_none event actor job (tasks.Update length index) is quiet = tt
asks_none event actor job (tasks.DoFragment req mode address) is quiet = tt

-- what was asked for a request
abbrev pub asks_of : Asked → List Asking
asks_of q = q.asks

-- the order changes nothing of that in the request which it serves
served_asks : (s : Seen) (job : Job) (task : Task) → AsksNone task → (q : Asked) → asks_of (request_served s job task q) ≡ asks_of q
served_asks s job (tasks.Activate entry epoch length index memo address) none q = by_document (document_of s job.doc) refl
  where
    by_document : (o : Option Document) → document_of s job.doc ≡ o → asks_of (request_served s job (tasks.Activate entry epoch length index memo address) q) ≡ asks_of q
    by_document None at = rw at refl
    by_document (Some d) at = rw at refl
served_asks s job tasks.Freeze none q = refl
served_asks s job tasks.Discard none q = refl
served_asks s job (tasks.Ask slot cause) never q = absurd never
served_asks s job (tasks.Populate nav state address initial) none q = refl
served_asks s job (tasks.Update length index) none q = refl
served_asks s job (tasks.DoFragment req mode address) none q = refl

-- nor does such a change of that request in any
serving_asks : (why : Why) (f : Asked → Asked) (asked : List Asked) → ((q : Asked) → asks_of (f q) ≡ asks_of q) → SameReads asks_of asked (on_served why f asked)
serving_asks (whys.Req req) f asked same = on_read asks_of asked req f same
serving_asks (whys.Death death) f asked same = λ r. refl
serving_asks whys.Evict f asked same = λ r. refl
serving_asks whys.Start f asked same = λ r. refl

-- so the order leaves what was asked for each request
pub sent_asks : (s : Seen) (job : Job) (task : Task) (asked : List Asked) → AsksNone task → SameReads asks_of asked (requests_sent s job task asked)
sent_asks s job (tasks.DoFragment req mode address) asked none =
    on_read asks_of asked req (λ q. record q { fragment = Some job.doc }) (λ q. refl)
sent_asks s job (tasks.Populate nav state address initial) asked none = λ r. refl
sent_asks s job (tasks.Update length index) asked none = λ r. refl
sent_asks s job (tasks.Activate entry epoch length index memo address) asked none =
    serving_asks job.why (request_served s job (tasks.Activate entry epoch length index memo address)) asked (served_asks s job (tasks.Activate entry epoch length index memo address) none)
sent_asks s job tasks.Freeze asked none =
    serving_asks job.why (request_served s job tasks.Freeze) asked (served_asks s job tasks.Freeze none)
sent_asks s job tasks.Discard asked none =
    serving_asks job.why (request_served s job tasks.Discard) asked (served_asks s job tasks.Discard none)
sent_asks s job (tasks.Ask slot cause) asked never = absurd never
