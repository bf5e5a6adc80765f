-- What tells whether a request is a load on its way, and that orders but fragment orders leave it, and answers do.
use Rattle.std.proofs.Common.{◌≡◌, ℕ, ◌+◌, Bool, cond, ◌&&◌, List, Option, Some, None, refl, sym, ap, ◌∙◌}
use Rattle.std.specs.Prelude.{is_none, is_some, option_map}
use Rattle.tab_ids.specs.declared.DocId.{DocId}
use Rattle.log_model.specs.declared.job.Job.{Job}
use Rattle.log_model.specs.declared.job.Order.{Order}
use Rattle.log_model.specs.declared.job.Task.{Task}
use Rattle.log_model.specs.declared.job.Task.TheVariants as tasks
use Rattle.log_model.specs.declared.job.Why.{Why}
use Rattle.log_model.specs.declared.job.Why.TheVariants as whys
use Rattle.log_model.specs.declared.made.Made.{Made}
use Rattle.log_model.specs.declared.made.Report.{Report}
use Rattle.log_model.specs.declared.made.Report.TheVariants as reports
use Rattle.log_model.specs.declared.outcome.Ending.{Ending}
use Rattle.log_model.specs.declared.outcome.Outcome.{Outcome}
use Rattle.log_model.specs.declared.outcome.Outcome.TheVariants as outcomes
use Rattle.log_model.specs.declared.request.Request.{Request}
use Rattle.log_model.specs.Equal.{holds}
use Rattle.log_model.specs.Seen.{Seen, Document, Asked, document_of}
use Rattle.log_model.specs.Places.{is_load}
use Rattle.log_model.specs.AfterRequests.{on_served, request_served, requests_sent, requests_finished, requests_delivered}
use Rattle.seen_facts.specs.Request.Whereabouts.{times_due, is_of_load}
use Rattle.seen_facts.proofs.Request.Readers.{SameReads, on_read}
use Rattle.seen_facts.specs.LoadWhereabouts.Whereabouts.{times_on_way}

-- what is read of a request: what it asks, whether it has begun, how it ended, what was made of it, and the document of its fragment order
pub record Trip : Type 0 where
  pub what : Request
  pub is_started : Bool
  pub ending : Option Ending
  pub made : Option Made
  pub fragment : Option DocId

abbrev pub trip : Asked → Trip
trip q = record { what = q.what; is_started = q.is_started; ending = q.ending; made = q.made; fragment = q.fragment }

abbrev pub trip_of : Option Asked → Option Trip
trip_of asked = option_map trip asked

abbrev pub SameTrips : List Asked → List Asked → Type 0
SameTrips asked next = SameReads trip asked next

-- ---- what is told by it

abbrev trip_load : Option Trip → Bool
trip_load o = holds (λ (x : Trip). is_load x.what) o

abbrev trip_due : Option Trip → ℕ
trip_due o = cond (holds (λ (x : Trip). is_none x.ending) o) 1 0

abbrev trip_ways : Option Trip → ℕ
trip_ways None = 0
trip_ways (Some x) =
    cond ((x.is_started && is_none x.ending) && is_load x.what) 1 0 + cond ((is_none x.ending && is_none x.made) && is_some x.fragment) 1 0

load_in : (o : Option Asked) → is_of_load o ≡ trip_load (trip_of o)
load_in None = refl
load_in (Some q) = refl

due_in : (o : Option Asked) → times_due o ≡ trip_due (trip_of o)
due_in None = refl
due_in (Some q) = refl

ways_in : (o : Option Asked) → times_on_way o ≡ trip_ways (trip_of o)
ways_in None = refl
ways_in (Some q) = refl

pub load_alike : (a b : Option Asked) → trip_of a ≡ trip_of b → is_of_load a ≡ is_of_load b
load_alike a b same = load_in a ∙ ap trip_load same ∙ sym (load_in b)

pub due_alike : (a b : Option Asked) → trip_of a ≡ trip_of b → times_due a ≡ times_due b
due_alike a b same = due_in a ∙ ap trip_due same ∙ sym (due_in b)

pub ways_alike : (a b : Option Asked) → trip_of a ≡ trip_of b → times_on_way a ≡ times_on_way b
ways_alike a b same = ways_in a ∙ ap trip_ways same ∙ sym (ways_in b)

-- ---- orders

served_trip : (s : Seen) (job : Job) (task : Task) (q : Asked) → trip (request_served s job task q) ≡ trip q
served_trip s job (tasks.Activate entry epoch length index memo address) q = by_document (document_of s job.doc) refl
  where
    by_document : (o : Option Document) → document_of s job.doc ≡ o → trip (request_served s job (tasks.Activate entry epoch length index memo address) q) ≡ trip q
    by_document None e = rw e refl
    by_document (Some d) e = rw e refl
served_trip s job tasks.Freeze q = refl
served_trip s job tasks.Discard q = refl
served_trip s job (tasks.Ask slot cause) q = refl
served_trip s job (tasks.Populate nav state address initial) q = refl
served_trip s job (tasks.Update length index) q = refl
served_trip s job (tasks.DoFragment req mode address) q = refl

served_trips : (why : Why) (f : Asked → Asked) (asked : List Asked) → ((q : Asked) → trip (f q) ≡ trip q) → SameTrips asked (on_served why f asked)
served_trips (whys.Req req) f asked same = on_read trip asked req f same
served_trips (whys.Death death) f asked same = λ r. refl
served_trips whys.Evict f asked same = λ r. refl
served_trips whys.Start f asked same = λ r. refl

-- the order is no fragment order
abbrev pub IsNoFragment : Task → Type 0
IsNoFragment (tasks.DoFragment req mode address) = ⊥
IsNoFragment _ = Unit {0}

pub sent_trips : (s : Seen) (job : Job) (task : Task) (asked : List Asked) → IsNoFragment task → SameTrips asked (requests_sent s job task asked)
sent_trips s job (tasks.DoFragment req mode address) asked never = absurd never
sent_trips s job (tasks.Populate nav state address initial) asked is = λ r. refl
sent_trips s job (tasks.Update length index) asked is = λ r. refl
sent_trips s job (tasks.Activate entry epoch length index memo address) asked is =
    served_trips job.why (request_served s job (tasks.Activate entry epoch length index memo address)) asked (served_trip s job (tasks.Activate entry epoch length index memo address))
sent_trips s job tasks.Freeze asked is =
    served_trips job.why (request_served s job tasks.Freeze) asked (served_trip s job tasks.Freeze)
sent_trips s job tasks.Discard asked is =
    served_trips job.why (request_served s job tasks.Discard) asked (served_trip s job tasks.Discard)
sent_trips s job (tasks.Ask slot cause) asked is =
    served_trips job.why (request_served s job (tasks.Ask slot cause)) asked (served_trip s job (tasks.Ask slot cause))

-- ---- what documents answer

fragment_trips : (s : Seen) (order : Order) (task : Task) (asked : List Asked) → order.job.task ≡ task → SameTrips asked (requests_finished s (Some order) outcomes.Fragmented asked)
fragment_trips s order (tasks.DoFragment req mode address) asked is = rw is (on_read trip asked req _ (λ q. refl))
fragment_trips s order (tasks.Populate nav state address initial) asked is = rw is (λ r. refl)
fragment_trips s order (tasks.Activate entry epoch length index memo address) asked is = rw is (λ r. refl)
fragment_trips s order (tasks.Update length index) asked is = rw is (λ r. refl)
fragment_trips s order tasks.Freeze asked is = rw is (λ r. refl)
fragment_trips s order tasks.Discard asked is = rw is (λ r. refl)
fragment_trips s order (tasks.Ask slot cause) asked is = rw is (λ r. refl)

pub finished_trips : (s : Seen) (in_hand : Option Order) (outcome : Outcome) (asked : List Asked) → SameTrips asked (requests_finished s in_hand outcome asked)
finished_trips s None outcome asked = λ r. refl
finished_trips s (Some order) (outcomes.Asked verdict) asked = served_trips order.job.why _ asked (λ q. refl)
finished_trips s (Some order) outcomes.Fragmented asked = fragment_trips s order order.job.task asked refl
finished_trips s (Some order) (outcomes.Populated slot) asked = λ r. refl
finished_trips s (Some order) outcomes.Activated asked = λ r. refl
finished_trips s (Some order) outcomes.Updated asked = λ r. refl
finished_trips s (Some order) outcomes.Frozen asked = λ r. refl
finished_trips s (Some order) outcomes.Discarded asked = λ r. refl

done_trips : (job : Job) (outcome : Outcome) (made : Option Made) (asked : List Asked) → SameTrips asked (requests_delivered (Some (reports.Done job outcome made)) asked)
done_trips job (outcomes.Asked verdict) made asked = served_trips job.why _ asked (λ q. refl)
done_trips job outcomes.Fragmented made asked = λ r. refl
done_trips job (outcomes.Populated slot) made asked = λ r. refl
done_trips job outcomes.Activated made asked = λ r. refl
done_trips job outcomes.Updated made asked = λ r. refl
done_trips job outcomes.Frozen made asked = λ r. refl
done_trips job outcomes.Discarded made asked = λ r. refl

pub delivered_trips : (report : Option Report) (asked : List Asked) → SameTrips asked (requests_delivered report asked)
delivered_trips None asked = λ r. refl
delivered_trips (Some (reports.Done job outcome made)) asked = done_trips job outcome made asked
delivered_trips (Some (reports.Made made)) asked = λ r. refl
delivered_trips (Some (reports.Died death)) asked = λ r. refl
