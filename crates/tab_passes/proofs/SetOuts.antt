-- Requests that have set out: traversals that have begun, loads that have begun or sent a document to a fragment. Whoever has set out has so still as rows come.
use Rattle.log_model.specs.AfterRequests.{on_request, on_served, request_begun, request_served, requests_sent}
use Rattle.log_model.specs.Places.{is_load, is_traversal}
use Rattle.log_model.specs.Seen.{Asked, Document, Seen, document_of, request_in, request_of}
use Rattle.log_model.specs.declared.job.Job.{Job}
use Rattle.log_model.specs.declared.job.Task.{Task}
use Rattle.log_model.specs.declared.job.Why.{Why}
use Rattle.log_model.specs.declared.request.Request.{Request}
use Rattle.seen_facts.proofs.Each.Courses.{was_asked}
use Rattle.seen_facts.proofs.Each.Runs.{each_asked_on}
use Rattle.seen_facts.proofs.Request.Readers.{SameReads}
use Rattle.seen_facts.specs.Each.Runs.{EachAsked}
use Rattle.std.proofs.Common.{Bool, List, None, Option, Some, ap, false, refl, sym, true, ◌||◌, ◌∙◌, ◌≡◌}
use Rattle.std.specs.Prelude.{is_some}
use Rattle.tab_ids.specs.declared.DocId.{DocId}
use Rattle.tab_ids.specs.declared.ReqId.{ReqId}
use Rattle.tab_ids.specs.declared.Step.{Step}
use Rattle.tab_passes.specs.Causes.{HasSetOut}
use Rattle.log_model.specs.declared.job.Task.TheVariants as tasks
use Rattle.log_model.specs.declared.job.Why.TheVariants as whys

-- one that has begun
pub started_out : (q : Asked) → q.is_started ≡ true → HasSetOut q
started_out q on = record { traverses = λ goes. on; loads = λ load. ap (λ (b : Bool). b || is_some q.fragment) on }

-- one that is no traversal, and for which a document was sent to a fragment, if it is a load
pub sent_out : (q : Asked) → is_traversal q.what ≡ false → (is_load q.what ≡ true → is_some q.fragment ≡ true) → HasSetOut q
sent_out q rests sent =
    record {
      traverses = λ goes. (let never : false ≡ true = sym rests ∙ goes in absurd cc);
      loads = λ load. either q.is_started (sent load);
    }
  where
    either : (a : Bool) {b : Bool} → b ≡ true → (a || b) ≡ true
    either true is = refl
    either false is = is

-- ---- read alike

-- what a request asks, whether it has begun, and the document that was sent to a fragment for it
pub record Course : Type 0 where
  pub what : Request
  pub is_started : Bool
  pub fragment : Option DocId

abbrev pub course_of : Asked → Course
course_of q = record { what = q.what; is_started = q.is_started; fragment = q.fragment }

pub out_alike : (q r : Asked) → course_of r ≡ course_of q → HasSetOut q → HasSetOut r
out_alike q r same out =
    record {
      traverses = λ goes. ap (λ (c : Course). c.is_started) same ∙ out.traverses (sym (ap (λ (c : Course). is_traversal c.what) same) ∙ goes);
      loads = λ load. ap (λ (c : Course). c.is_started || is_some c.fragment) same ∙ out.loads (sym (ap (λ (c : Course). is_load c.what) same) ∙ load);
    }

-- ---- whoever has set out has so still

-- where the request is this one, it has set out
abbrev pub IsBegun : ReqId → ReqId → Asked → Type 0
IsBegun this req q = req ≡ this → HasSetOut q

abbrev pub KeepBegun : List Asked → List Asked → Type 0
KeepBegun old new = (this : ReqId) → EachAsked (IsBegun this) old → EachAsked (IsBegun this) new

pub kept_begun : (s t : Seen) (req : ReqId) → KeepBegun s.requests t.requests → ((q : Asked) → request_of s req ≡ Some q → HasSetOut q) → (q : Asked) → request_of t req ≡ Some q → HasSetOut q
kept_begun s t req keep was q at =
    keep req (λ r p there one. was p (ap (λ (x : ReqId). request_in s.requests x) (sym one) ∙ there)) req q at refl

-- where what each asks, whether it has begun, and whom it sent to a fragment, is as it was
pub begun_as_it_was : (old new : List Asked) → SameReads course_of old new → KeepBegun old new
begun_as_it_was old new same this each req q at is =
    let was = was_asked course_of old new same req q at in
    out_alike was.0 q (sym was.2) (each req was.0 was.1 is)

-- where one changes in nothing of that
begun_on : (asked : List Asked) (req : ReqId) (f : Asked → Asked) → ((q : Asked) → course_of (f q) ≡ course_of q) → KeepBegun asked (on_request req f asked)
begun_on asked req f same this each =
    each_asked_on (IsBegun this) (IsBegun this) asked req f (λ r q apart begun. begun) (λ q at begun is. out_alike q (f q) (same q) (begun is)) each

-- where one begins
pub begun_with : (s : Seen) (req : ReqId) (goal : Option Step) → KeepBegun s.requests (on_request req (request_begun s) (on_request req (λ (q : Asked). record q { is_started = true; goal = goal }) s.requests))
begun_with s req goal this each =
    each_asked_on (IsBegun this) (IsBegun this) (on_request req begin s.requests) req (request_begun s) (λ r q apart begun. begun) (λ q at begun is. out_alike q (request_begun s q) refl (begun is))
    (each_asked_on (IsBegun this) (IsBegun this) s.requests req begin (λ r q apart begun. begun) (λ q at begun is. started_out (begin q) refl) each)
  where
    begin : Asked → Asked
    begin q = record q { is_started = true; goal = goal }

-- where an order is sent
module _ (s : Seen) (job : Job) where
  served_course : (task : Task) (q : Asked) → course_of (request_served s job task q) ≡ course_of q
  served_course (tasks.Activate entry epoch length index memo address) q = by_document (document_of s job.doc) refl
    where
      by_document : (o : Option Document) → document_of s job.doc ≡ o → course_of (request_served s job (tasks.Activate entry epoch length index memo address) q) ≡ course_of q
      by_document None e = rw e refl
      by_document (Some d) e = rw e refl
  served_course tasks.Freeze q = refl
  served_course tasks.Discard q = refl
  served_course (tasks.Ask slot cause) q = refl
  served_course (tasks.Populate nav state address initial) q = refl
  served_course (tasks.Update length index) q = refl
  served_course (tasks.DoFragment req mode address) q = refl

  served_begun : (why : Why) (f : Asked → Asked) (asked : List Asked) → ((q : Asked) → course_of (f q) ≡ course_of q) → KeepBegun asked (on_served why f asked)
  served_begun (whys.Req req) f asked same = begun_on asked req f same
  served_begun (whys.Death death) f asked same = λ this each. each
  served_begun whys.Evict f asked same = λ this each. each
  served_begun whys.Start f asked same = λ this each. each

  pub sent_begun : (task : Task) (asked : List Asked) → KeepBegun asked (requests_sent s job task asked)
  sent_begun (tasks.DoFragment req mode address) asked = λ this each.
      each_asked_on (IsBegun this) (IsBegun this) asked req (λ (q : Asked). record q { fragment = Some job.doc }) (λ r q apart begun. begun) (λ q at begun is. sent_it q (begun is)) each
    where
      sent_it : (q : Asked) → HasSetOut q → HasSetOut (record q { fragment = Some job.doc })
      sent_it q out = record { traverses = out.traverses; loads = λ load. either q.is_started }
        where
          either : (a : Bool) → (a || true) ≡ true
          either true = refl
          either false = refl
  sent_begun (tasks.Populate nav state address initial) asked = λ this each. each
  sent_begun (tasks.Update length index) asked = λ this each. each
  sent_begun (tasks.Activate entry epoch length index memo address) asked =
      served_begun job.why (request_served s job (tasks.Activate entry epoch length index memo address)) asked (served_course (tasks.Activate entry epoch length index memo address))
  sent_begun tasks.Freeze asked =
      served_begun job.why (request_served s job tasks.Freeze) asked (served_course tasks.Freeze)
  sent_begun tasks.Discard asked =
      served_begun job.why (request_served s job tasks.Discard) asked (served_course tasks.Discard)
  sent_begun (tasks.Ask slot cause) asked =
      served_begun job.why (request_served s job (tasks.Ask slot cause)) asked (served_course (tasks.Ask slot cause))
