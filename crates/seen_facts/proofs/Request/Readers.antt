-- What orders, and documents' answers, leave of the requests: whatever doesn't look at where they were sent, or what they ask.
use Rattle.std.proofs.Common.{◌≡◌, Bool, List, Option, Some, None, refl, ap, ◌∙◌}
use Rattle.std.specs.Prelude.{option_map}
use Rattle.tab_ids.specs.declared.DocId.{DocId}
use Rattle.tab_ids.specs.declared.NavId.{NavId}
use Rattle.tab_ids.specs.declared.ReqId.{ReqId}
use Rattle.log_model.specs.declared.job.Job.{Job}
use Rattle.log_model.specs.declared.job.Order.{Order}
use Rattle.log_model.specs.declared.job.Task.{Task}
use Rattle.log_model.specs.declared.job.Task.TheVariants as tasks
use Rattle.log_model.specs.declared.job.Why.{Why}
use Rattle.log_model.specs.declared.job.Why.TheVariants as whys
use Rattle.log_model.specs.declared.made.Made.{Made}
use Rattle.log_model.specs.declared.made.Report.{Report}
use Rattle.log_model.specs.declared.made.Report.TheVariants as reports
use Rattle.log_model.specs.declared.outcome.Outcome.{Outcome}
use Rattle.log_model.specs.declared.outcome.Outcome.TheVariants as outcomes
use Rattle.log_model.specs.Seen.{Seen, Document, Asked, Asking, document_of, request_in}
use Rattle.log_model.specs.AfterRequests.{on_request, on_served, request_served, requests_sent, requests_finished, requests_delivered}
use Rattle.seen_facts.proofs.Coord.Held.{on_alike}

module _ {B : Type 0} (read : Asked → B) where
  abbrev pub read_of : Option Asked → Option B
  read_of asked = option_map read asked

  -- each request is read as the same
  abbrev pub SameReads : List Asked → List Asked → Type 0
  SameReads asked next = (r : ReqId) → read_of (request_in next r) ≡ read_of (request_in asked r)

  pub reads_then : (a b c : List Asked) → SameReads a b → SameReads b c → SameReads a c
  reads_then a b c first then_ r = then_ r ∙ first r

  -- a change of one request that leaves it
  pub on_read : (asked : List Asked) (req : ReqId) (f : Asked → Asked) → ((q : Asked) → read (f q) ≡ read q) → SameReads asked (on_request req f asked)
  on_read asked req f same r =
      on_alike read_of asked req f r (λ q. ap (λ (b : B). Some b) (same q))

  -- it doesn't look at what is moved for a request, whom it asks, or its fragment order
  pub record IsBlind : Type 0 where
    pub moves : (q : Asked) (activated moved : List NavId) → read (record q { activated = activated; moved = moved }) ≡ read q
    pub asks : (q : Asked) (asks : List Asking) → read (record q { asks = asks }) ≡ read q
    pub fragments : (q : Asked) (doc : Option DocId) → read (record q { fragment = doc }) ≡ read q
    pub misses : (q : Asked) (is : Bool) → read (record q { is_not_found = is }) ≡ read q

  module _ (blind : IsBlind) where
    served_read : (s : Seen) (job : Job) (task : Task) (q : Asked) → read (request_served s job task q) ≡ read q
    served_read s job (tasks.Activate entry epoch length index memo address) q = by_document (document_of s job.doc) refl
      where
        by_document : (o : Option Document) → document_of s job.doc ≡ o → read (request_served s job (tasks.Activate entry epoch length index memo address) q) ≡ read q
        by_document None e = rw e refl
        by_document (Some d) e = rw e (blind.moves q _ _)
    served_read s job tasks.Freeze q = blind.moves q _ _
    served_read s job tasks.Discard q = blind.moves q _ _
    served_read s job (tasks.Ask slot cause) q = blind.asks q _
    served_read s job (tasks.Populate nav state address initial) q = refl
    served_read s job (tasks.Update length index) q = refl
    served_read s job (tasks.DoFragment req mode address) q = refl

    served_reads : (why : Why) (f : Asked → Asked) (asked : List Asked) → ((q : Asked) → read (f q) ≡ read q) → SameReads asked (on_served why f asked)
    served_reads (whys.Req req) f asked same = on_read asked req f same
    served_reads (whys.Death death) f asked same = λ r. refl
    served_reads whys.Evict f asked same = λ r. refl
    served_reads whys.Start f asked same = λ r. refl

    pub sent_reads : (s : Seen) (job : Job) (task : Task) (asked : List Asked) → SameReads asked (requests_sent s job task asked)
    sent_reads s job (tasks.DoFragment req mode address) asked =
        on_read asked req (λ q. record q { fragment = Some job.doc }) (λ q. blind.fragments q (Some job.doc))
    sent_reads s job (tasks.Populate nav state address initial) asked = λ r. refl
    sent_reads s job (tasks.Update length index) asked = λ r. refl
    sent_reads s job (tasks.Activate entry epoch length index memo address) asked =
        served_reads job.why (request_served s job (tasks.Activate entry epoch length index memo address)) asked (served_read s job (tasks.Activate entry epoch length index memo address))
    sent_reads s job tasks.Freeze asked =
        served_reads job.why (request_served s job tasks.Freeze) asked (served_read s job tasks.Freeze)
    sent_reads s job tasks.Discard asked =
        served_reads job.why (request_served s job tasks.Discard) asked (served_read s job tasks.Discard)
    sent_reads s job (tasks.Ask slot cause) asked =
        served_reads job.why (request_served s job (tasks.Ask slot cause)) asked (served_read s job (tasks.Ask slot cause))

    -- ---- what documents answer

    fragment_reads : (s : Seen) (order : Order) (task : Task) (asked : List Asked) → order.job.task ≡ task → SameReads asked (requests_finished s (Some order) outcomes.Fragmented asked)
    fragment_reads s order (tasks.DoFragment req mode address) asked is = rw is (on_read asked req _ (λ q. blind.misses q _))
    fragment_reads s order (tasks.Populate nav state address initial) asked is = rw is (λ r. refl)
    fragment_reads s order (tasks.Activate entry epoch length index memo address) asked is = rw is (λ r. refl)
    fragment_reads s order (tasks.Update length index) asked is = rw is (λ r. refl)
    fragment_reads s order tasks.Freeze asked is = rw is (λ r. refl)
    fragment_reads s order tasks.Discard asked is = rw is (λ r. refl)
    fragment_reads s order (tasks.Ask slot cause) asked is = rw is (λ r. refl)

    pub finished_reads : (s : Seen) (in_hand : Option Order) (outcome : Outcome) (asked : List Asked) → SameReads asked (requests_finished s in_hand outcome asked)
    finished_reads s None outcome asked = λ r. refl
    finished_reads s (Some order) (outcomes.Asked verdict) asked = served_reads order.job.why _ asked (λ q. blind.asks q _)
    finished_reads s (Some order) outcomes.Fragmented asked = fragment_reads s order order.job.task asked refl
    finished_reads s (Some order) (outcomes.Populated slot) asked = λ r. refl
    finished_reads s (Some order) outcomes.Activated asked = λ r. refl
    finished_reads s (Some order) outcomes.Updated asked = λ r. refl
    finished_reads s (Some order) outcomes.Frozen asked = λ r. refl
    finished_reads s (Some order) outcomes.Discarded asked = λ r. refl

    done_reads : (job : Job) (outcome : Outcome) (made : Option Made) (asked : List Asked) → SameReads asked (requests_delivered (Some (reports.Done job outcome made)) asked)
    done_reads job (outcomes.Asked verdict) made asked = served_reads job.why _ asked (λ q. blind.asks q _)
    done_reads job outcomes.Fragmented made asked = λ r. refl
    done_reads job (outcomes.Populated slot) made asked = λ r. refl
    done_reads job outcomes.Activated made asked = λ r. refl
    done_reads job outcomes.Updated made asked = λ r. refl
    done_reads job outcomes.Frozen made asked = λ r. refl
    done_reads job outcomes.Discarded made asked = λ r. refl

    pub delivered_reads : (report : Option Report) (asked : List Asked) → SameReads asked (requests_delivered report asked)
    delivered_reads None asked = λ r. refl
    delivered_reads (Some (reports.Done job outcome made)) asked = done_reads job outcome made asked
    delivered_reads (Some (reports.Made made)) asked = λ r. refl
    delivered_reads (Some (reports.Died death)) asked = λ r. refl
