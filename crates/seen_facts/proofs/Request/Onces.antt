-- Where each request is, from row to row.
use Rattle.std.proofs.Common.{◌≡◌, ℕ, ◌+◌, Bool, true, List, [], ◌∷◌, ◌++◌, Option, Some, None, refl, sym, ap, ◌∙◌, arith, append-nil}
use Rattle.std.specs.Prelude.{filter_map, if◌then◌else◌, is_none}
use Rattle.std.proofs.lemmas.List.Elements.{filter_map-append}
use Rattle.tab_ids.specs.declared.Death.{Death}
use Rattle.tab_ids.specs.declared.DocId.{DocId}
use Rattle.tab_ids.specs.declared.JobId.{JobId}
use Rattle.tab_ids.specs.declared.ProcId.{ProcId}
use Rattle.tab_ids.specs.declared.ReqId.{ReqId}
use Rattle.tab_ids.specs.declared.StateId.{StateId}
use Rattle.tab_ids.specs.declared.Step.{Step}
use Rattle.log_model.specs.declared.job.Job.{Job}
use Rattle.log_model.specs.declared.job.Order.{Order}
use Rattle.log_model.specs.declared.made.Made.{Made}
use Rattle.log_model.specs.declared.made.Report.{Report}
use Rattle.log_model.specs.declared.made.Report.TheVariants as reports
use Rattle.log_model.specs.declared.outcome.Outcome.{Outcome}
use Rattle.log_model.specs.declared.row_kind.Actor.{Actor}
use Rattle.log_model.specs.declared.row_kind.RowKind.TheVariants as rows
use Rattle.log_model.specs.Equal.{holds}
use Rattle.log_model.specs.Seen.{Seen, Desk, Asked, desk_of, request_in}
use Rattle.log_model.specs.Places.{is_load}
use Rattle.log_model.specs.After.{on_desk, desk_taken, desk_finished, desk_killed}
use Rattle.log_model.specs.AfterRequests.{on_request, request_begun, made_of_report}
use Rattle.seen_facts.proofs.Coord.Unread.{next}
use Rattle.seen_facts.specs.Request.Whereabouts.{times, answered_by, times_at, times_found, times_due, is_of_load, AreOnce}
use Rattle.seen_facts.specs.Request.Cores.{Core, core_of}
use Rattle.seen_facts.proofs.Request.Cores.{SameCores, same_then, on_core, sent_cores, finished_cores}
use Rattle.seen_facts.proofs.Request.Times.{desk_same}

-- ---- what a row has to show

-- whether it is a load, and whether it is open, is in what orders leave
abbrev core_load : Option Core → Bool
core_load core_ = holds (λ (c : Core). is_load c.what) core_

load_in : (o : Option Asked) → is_of_load o ≡ core_load (core_of o)
load_in None = refl
load_in (Some q) = refl

abbrev core_due : Option Core → ℕ
core_due core_ = if holds (λ (c : Core). is_none c.ending) core_ then 1 else 0

due_in : (o : Option Asked) → times_due o ≡ core_due (core_of o)
due_in None = refl
due_in (Some q) = refl

pub load_alike : (a b : Option Asked) → core_of a ≡ core_of b → is_of_load a ≡ is_of_load b
load_alike a b same = load_in a ∙ ap core_load same ∙ sym (load_in b)

pub due_alike : (a b : Option Asked) → core_of a ≡ core_of b → times_due a ≡ times_due b
due_alike a b same = due_in a ∙ ap core_due same ∙ sym (due_in b)

-- each request is where it was, as often as it was
abbrev pub SameTimes : Seen → List ReqId → Seen → List ReqId → Type 0
SameTimes s hand t hand_ =
    (r : ReqId) → times_found r t.desks t.joined t.parked hand_ ≡ times_found r s.desks s.joined s.parked hand

-- requests are loads, and open, as they were
pub record SameDues (asked next : List Asked) : Type 0 where
  pub loads : (r : ReqId) → is_of_load (request_in next r) ≡ is_of_load (request_in asked r)
  pub dues : (r : ReqId) → times_due (request_in next r) ≡ times_due (request_in asked r)

same_dues : (asked next : List Asked) → SameCores asked next → SameDues asked next
same_dues asked next cores =
    record {
      loads = λ r. load_alike (request_in next r) (request_in asked r) (cores r);
      dues = λ r. due_alike (request_in next r) (request_in asked r) (cores r);
    }

pub once_moved : (s t : Seen) (hand hand_ : List ReqId) → SameDues s.requests t.requests → SameTimes s hand t hand_ → AreOnce s hand → AreOnce t hand_
once_moved s t hand hand_ dues same each r no_load =
    same r ∙ each r (sym (dues.loads r) ∙ no_load) ∙ sym (dues.dues r)

pub once_again : (s t : Seen) (hand hand_ : List ReqId) → SameCores s.requests t.requests → SameTimes s hand t hand_ → AreOnce s hand → AreOnce t hand_
once_again s t hand hand_ cores same each =
    once_moved s t hand hand_ (same_dues s.requests t.requests cores) same each

-- one desk is changed, which has the same requests; the queue and what is held back stay
pub one_desk : (s t : Seen) (hand : List ReqId) (proc : ProcId) (g : Desk → Desk) → t.desks ≡ on_desk proc g s.desks → ((r : ReqId) → times_at r (g (desk_of s proc)) ≡ times_at r (desk_of s proc)) → t.joined ≡ s.joined → t.parked ≡ s.parked → SameTimes s hand t hand
one_desk s t hand proc g desks same joined parked r =
    rw desks (rw joined (rw parked (ap (λ (n : ℕ). n + (times r s.joined + (times r s.parked + times r hand))) (desk_same r g s.desks proc (same r)))))

-- ---- rows that leave each request where it is

module _ (s : Seen) (hand : List ReqId) (event : ℕ) (actor : Actor) where
  pub started_once : (req : ReqId) (goal : Option Step) → AreOnce s hand → AreOnce (next s event actor (rows.Started req goal)) hand
  started_once req goal each =
      once_again s (next s event actor (rows.Started req goal)) hand hand
      (same_then s.requests (on_request req (λ q. record q { is_started = true; goal = goal }) s.requests) _ (on_core s.requests req _ (λ q. refl)) (on_core _ req (request_begun s) (λ q. refl)))
      (λ r. refl) each

  pub prompted_once : (req : ReqId) (doc : DocId) → AreOnce s hand → AreOnce (next s event actor (rows.Prompted req doc)) hand
  prompted_once req doc each =
      once_again s (next s event actor (rows.Prompted req doc)) hand hand (on_core s.requests req _ (λ q. refl)) (λ r. refl) each

  pub answered_once : (req : ReqId) (stay : Bool) → AreOnce s hand → AreOnce (next s event actor (rows.Answered req stay)) hand
  answered_once req stay each =
      once_again s (next s event actor (rows.Answered req stay)) hand hand (on_core s.requests req _ (λ q. refl)) (λ r. refl) each

  pub evicted_once : (state : StateId) → AreOnce s hand → AreOnce (next s event actor (rows.Evicted state)) hand
  evicted_once state each = each

  pub sent_once : (job : Job) → AreOnce s hand → AreOnce (next s event actor (rows.Sent job)) hand
  sent_once job each =
      once_again s (next s event actor (rows.Sent job)) hand hand (sent_cores s job job.task s.requests)
      (one_desk s (next s event actor (rows.Sent job)) hand job.proc (λ desk. record desk { mail = desk.mail ++ job ∷ [] }) refl (λ r. refl) refl refl) each

  pub taken_once : (proc : ProcId) (job : JobId) (live dirty : Bool) → AreOnce s hand → AreOnce (next s event actor (rows.Taken proc job live dirty)) hand
  taken_once proc job live dirty each =
      once_again s (next s event actor (rows.Taken proc job live dirty)) hand hand (λ r. refl)
      (one_desk s (next s event actor (rows.Taken proc job live dirty)) hand proc (desk_taken live dirty) refl (λ r. refl) refl refl) each

  -- a report that tells of nothing made
  pub untold : (r : ReqId) (reports_ : List Report) (report : Report) → made_of_report report ≡ None → times r (answered_by (filter_map made_of_report (reports_ ++ report ∷ []))) ≡ times r (answered_by (filter_map made_of_report reports_))
  untold r reports_ report none =
      ap (λ (l : List Made). times r (answered_by l)) (filter_map-append made_of_report reports_ (report ∷ []) ∙ rw none (append-nil (filter_map made_of_report reports_)))

  pub finished_once : (proc : ProcId) (job : JobId) (outcome : Outcome) → AreOnce s hand → AreOnce (next s event actor (rows.Finished proc job outcome)) hand
  finished_once proc job outcome each =
      once_again s (next s event actor (rows.Finished proc job outcome)) hand hand (finished_cores s (desk_of s proc).in_hand outcome s.requests)
      (one_desk s (next s event actor (rows.Finished proc job outcome)) hand proc (desk_finished outcome) refl (λ r. by_hand r (desk_of s proc) (desk_of s proc).in_hand refl) refl refl) each
    where
      by_hand : (r : ReqId) (desk : Desk) (in_hand : Option Order) → desk.in_hand ≡ in_hand → times_at r (desk_finished outcome desk) ≡ times_at r desk
      by_hand r desk None is = rw is refl
      by_hand r desk (Some order) is =
          rw is (let same : times r (answered_by (filter_map made_of_report (desk.reports ++ reports.Done order.job outcome None ∷ []))) ≡ times r (answered_by (filter_map made_of_report desk.reports)) = untold r desk.reports (reports.Done order.job outcome None) refl in omega (arith, same))

  pub killed_once : (proc : ProcId) (death : Death) → AreOnce s hand → AreOnce (next s event actor (rows.Killed proc death)) hand
  killed_once proc death each =
      once_again s (next s event actor (rows.Killed proc death)) hand hand (λ r. refl)
      (one_desk s (next s event actor (rows.Killed proc death)) hand proc (desk_killed death) refl (λ r. let same : times r (answered_by (filter_map made_of_report ((desk_of s proc).reports ++ reports.Died death ∷ []))) ≡ times r (answered_by (filter_map made_of_report (desk_of s proc).reports)) = untold r (desk_of s proc).reports (reports.Died death) refl in omega (arith, same)) refl refl) each
