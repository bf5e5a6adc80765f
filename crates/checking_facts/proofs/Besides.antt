-- A row beside the checks: what it leaves of them, and that it stands beside the prompts that are to come.
use Rattle.std.proofs.Common.{◌≡◌, ◌⊎◌, inl, inr, ℕ, Bool, true, false, ◌&&◌, ◌==◌, List, [], ◌∷◌, ◌++◌, Option, Some, None, refl, sym, ap, ◌∙◌, subst}
use Rattle.tab_ids.specs.declared.DocId.{DocId}
use Rattle.tab_ids.specs.declared.ReqId.{ReqId}
use Rattle.log_model.specs.declared.job.Job.{Job}
use Rattle.log_model.specs.declared.job.Task.{Task}
use Rattle.log_model.specs.declared.job.Task.TheVariants as tasks
use Rattle.log_model.specs.declared.job.Why.{Why}
use Rattle.log_model.specs.declared.job.Why.TheVariants as whys
use Rattle.log_model.specs.declared.outcome.Ending.TheVariants as endings
use Rattle.log_model.specs.declared.row_kind.Actor.{Actor}
use Rattle.log_model.specs.declared.row_kind.RowKind.{RowKind}
use Rattle.log_model.specs.declared.row_kind.RowKind.TheVariants as rows
use Rattle.log_model.specs.After.{ended}
use Rattle.log_model.specs.AfterDocuments.{applied_to, told_after_change}
use Rattle.log_model.specs.AfterRequests.{entries_taken, on_request, request_begun}
use Rattle.log_model.specs.Checks.{goes_on_with, is_of_run}
use Rattle.log_model.specs.Orders.{is_for}
use Rattle.log_model.specs.Places.{is_gone}
use Rattle.log_model.specs.Seen.{Asked, Document, Seen, request_of}
use Rattle.seen_facts.proofs.Coord.Held.{on_else}
use Rattle.seen_facts.proofs.Each.Courses.{is_asked}
use Rattle.seen_facts.proofs.Hang.Members.{has_more}
use Rattle.seen_facts.specs.Hang.Members.{Has}
use Rattle.seen_facts.proofs.Request.Readers.{SameReads}
use Rattle.check_facts.proofs.Asides.{applied_aside, dropped_aside, refused_aside, sent_aside, started_aside}
use Rattle.check_facts.proofs.Gones.{applied_one}
use Rattle.check_facts.proofs.Keeping.{mapped_same, sent_gone_same, sent_reads}
use Rattle.check_facts.proofs.Promptings.{keeps_settled}
use Rattle.check_facts.proofs.Rows.{DropsStay, applied_drops, applied_plain, dropped_drops, dropped_plain, drops_stay, next, plain_of, refused_drops, refused_plain, row_of_kind, sent_drops, sent_keeps, sent_plain, started_drops, started_plain}
use Rattle.check_facts.specs.Checking.{checked_of}
use Rattle.check_facts.specs.Prompting.{HaveNumbers, IsAside, NothingElseDue}
use Rattle.check_facts.specs.Rows.{IsNoQuestion, IsServing}
use Rattle.unasked_dues.specs.Checking.{IsForOther}
use Rattle.checking_facts.proofs.Grown.{req_same}
use Rattle.checking_facts.specs.Prompts.{EachEndsOff, EndsOff, GoesBeside, SendsBeside, discarded_by}

and_false : (b : Bool) → (b && false) ≡ false
and_false true = refl
and_false false = refl

-- ---- what it refuses isn't in its check

pub beside_ends : (checking : ReqId → Bool) (s : Seen) (kind : RowKind) → GoesBeside checking s kind → EndsOff checking kind
beside_ends checking s (rows.Sent job) beside = tt
beside_ends checking s (rows.Started req goal) beside = tt
beside_ends checking s (rows.Applied req change) beside = tt
beside_ends checking s (rows.Refused req reason) beside = beside.0
beside_ends checking s (rows.Dropped req cause) beside = tt
beside_ends checking s _ never = absurd never

-- so it is of all rows, with one more
pub ends_more : (checking : ReqId → Bool) (out : List RowKind) (kind : RowKind) → EachEndsOff checking out → EndsOff checking kind → EachEndsOff checking (out ++ kind ∷ [])
ends_more checking out kind each ends row has = by_place (has_more out kind row has)
  where
    by_place : Has out row ⊎ (kind ≡ row) → EndsOff checking row
    by_place (inl before) = each row before
    by_place (inr same) = subst (EndsOff checking) same ends

-- ---- orders that ask nothing

-- one that isn't a question
pub no_question : (checking : ReqId → Bool) (s : Seen) (job : Job) (task : Task) → SendsBeside checking s job task → IsNoQuestion task
no_question checking s job (tasks.Ask slot cause) beside = absurd beside
no_question checking s job (tasks.Populate nav state address initial) beside = tt
no_question checking s job (tasks.Activate entry epoch length index memo address) beside = tt
no_question checking s job (tasks.Update length index) beside = tt
no_question checking s job tasks.Freeze beside = tt
no_question checking s job tasks.Discard beside = tt
no_question checking s job (tasks.DoFragment req mode address) beside = tt

-- and that discards nothing
pub serves : (checking : ReqId → Bool) (s : Seen) (job : Job) → SendsBeside checking s job job.task → discarded_by (rows.Sent job) ≡ None → IsServing job.task
serves checking s job beside none = by_task job.task refl beside
  where
    by_task : (task : Task) → job.task ≡ task → SendsBeside checking s job task → IsServing task
    by_task (tasks.Ask slot cause) is beside = absurd beside
    by_task tasks.Discard is beside = let never : discarded_by (rows.Sent job) ≡ Some job.doc = rw is refl in let no_ : Some job.doc ≡ None = sym never ∙ none in absurd cc
    by_task (tasks.Populate nav state address initial) is beside = tt
    by_task (tasks.Activate entry epoch length index memo address) is beside = tt
    by_task (tasks.Update length index) is beside = tt
    by_task tasks.Freeze is beside = tt
    by_task (tasks.DoFragment req mode address) is beside = tt

module _ (checking : ReqId → Bool) (s : Seen) (event : ℕ) (actor : Actor) where
  abbrev pub then_ : RowKind → Seen
  then_ kind = next s event actor kind

  -- ---- requests in their check

  -- one that is isn't one that isn't
  apart : (req r : ReqId) → checking req ≡ false → checking r ≡ true → (r.0 == req.0) ≡ false
  apart req r off on = by_test (r.0 == req.0) refl
    where
      by_test : (b : Bool) → (r.0 == req.0) ≡ b → b ≡ false
      by_test false e = refl
      by_test true e =
          let both : true ≡ false = sym on ∙ ap checking (req_same r req e) ∙ off in
          absurd cc

  -- it is read as it was
  abbrev pub IsReadSame : RowKind → ReqId → Asked → Type 0
  IsReadSame kind req q = (r : Asked) × (request_of (then_ kind) req ≡ Some r) × (checked_of r ≡ checked_of q)

  pub beside_reads : (kind : RowKind) → GoesBeside checking s kind → (req : ReqId) (q : Asked) → request_of s req ≡ Some q → checking req ≡ true → IsReadSame kind req q
  beside_reads (rows.Started by goal) beside req q found on =
      let off = apart by req beside on in
      (q, on_else (on_request by (λ x. record x { is_started = true; goal = goal }) s.requests) by (request_begun s) req off ∙ on_else s.requests by (λ x. record x { is_started = true; goal = goal }) req off ∙ found, refl)
  beside_reads (rows.Applied by change) beside req q found on =
      let off = apart by req beside.0 on in
      (q, on_else (on_request by (λ x. record x { change = Some change }) (ended s.requests by endings.Applied)) by (λ x. record x { took = entries_taken s.history change }) req off ∙ on_else (ended s.requests by endings.Applied) by (λ x. record x { change = Some change }) req off ∙ on_else s.requests by (λ x. record x { ending = Some endings.Applied }) req off ∙ found, refl)
  beside_reads (rows.Refused by reason) beside req q found on =
      (q, on_else s.requests by (λ x. record x { ending = Some (endings.Refused reason) }) req (apart by req beside.0 on) ∙ found, refl)
  beside_reads (rows.Dropped by cause) beside req q found on =
      (q, on_else s.requests by (λ x. record x { ending = Some (endings.Dropped cause) }) req (apart by req beside on) ∙ found, refl)
  beside_reads (rows.Sent job) beside req q found on =
      is_asked checked_of s.requests (then_ (rows.Sent job)).requests (sent_reads s job (no_question checking s job job.task beside)) req q found
  beside_reads (rows.Opened entry state doc proc slot address) beside req q found on = absurd beside
  beside_reads (rows.Accepted by doc what) beside req q found on = absurd beside
  beside_reads (rows.Prompted by doc) beside req q found on = absurd beside
  beside_reads (rows.Answered by stay) beside req q found on = absurd beside
  beside_reads (rows.Taken proc job live dirty) beside req q found on = absurd beside
  beside_reads (rows.Finished proc job outcome) beside req q found on = absurd beside
  beside_reads (rows.Made proc made) beside req q found on = absurd beside
  beside_reads (rows.Delivered proc) beside req q found on = absurd beside
  beside_reads (rows.Killed proc death) beside req q found on = absurd beside
  beside_reads (rows.Evicted state) beside req q found on = absurd beside

  -- ---- questions and prompts of all

  pub beside_plain : (kind : RowKind) → GoesBeside checking s kind → SameReads plain_of s.requests (then_ kind).requests
  beside_plain (rows.Started by goal) beside = started_plain s event actor by goal
  beside_plain (rows.Applied by change) beside = applied_plain s event actor by change
  beside_plain (rows.Refused by reason) beside = refused_plain s event actor by reason
  beside_plain (rows.Dropped by cause) beside = dropped_plain s event actor by cause
  beside_plain (rows.Sent job) beside = sent_plain s event actor job (no_question checking s job job.task beside)
  beside_plain (rows.Opened entry state doc proc slot address) beside = absurd beside
  beside_plain (rows.Accepted by doc what) beside = absurd beside
  beside_plain (rows.Prompted by doc) beside = absurd beside
  beside_plain (rows.Answered by stay) beside = absurd beside
  beside_plain (rows.Taken proc job live dirty) beside = absurd beside
  beside_plain (rows.Finished proc job outcome) beside = absurd beside
  beside_plain (rows.Made proc made) beside = absurd beside
  beside_plain (rows.Delivered proc) beside = absurd beside
  beside_plain (rows.Killed proc death) beside = absurd beside
  beside_plain (rows.Evicted state) beside = absurd beside

  -- who was dropped is
  pub beside_drops : (kind : RowKind) → GoesBeside checking s kind → DropsStay s (then_ kind)
  beside_drops (rows.Started by goal) beside = drops_stay s (then_ (rows.Started by goal)) (started_drops s event actor by goal)
  beside_drops (rows.Applied by change) beside = drops_stay s (then_ (rows.Applied by change)) (applied_drops s event actor by change beside.1)
  beside_drops (rows.Refused by reason) beside = drops_stay s (then_ (rows.Refused by reason)) (refused_drops s event actor by reason beside.1)
  beside_drops (rows.Dropped by cause) beside = dropped_drops s event actor by cause
  beside_drops (rows.Sent job) beside = drops_stay s (then_ (rows.Sent job)) (sent_drops s event actor job (no_question checking s job job.task beside))
  beside_drops (rows.Opened entry state doc proc slot address) beside = absurd beside
  beside_drops (rows.Accepted by doc what) beside = absurd beside
  beside_drops (rows.Prompted by doc) beside = absurd beside
  beside_drops (rows.Answered by stay) beside = absurd beside
  beside_drops (rows.Taken proc job live dirty) beside = absurd beside
  beside_drops (rows.Finished proc job outcome) beside = absurd beside
  beside_drops (rows.Made proc made) beside = absurd beside
  beside_drops (rows.Delivered proc) beside = absurd beside
  beside_drops (rows.Killed proc death) beside = absurd beside
  beside_drops (rows.Evicted state) beside = absurd beside

  -- unless it discards a document, the same documents are gone
  pub beside_gone : (kind : RowKind) → GoesBeside checking s kind → discarded_by kind ≡ None → (doc : DocId) → is_gone (then_ kind) doc ≡ is_gone s doc
  beside_gone (rows.Started by goal) beside none doc = refl
  beside_gone (rows.Applied by change) beside none doc =
      mapped_same (λ (d : Document). applied_to change (told_after_change d change)) s.documents doc (λ d. (applied_one change d).0) (λ d. (applied_one change d).1)
  beside_gone (rows.Refused by reason) beside none doc = refl
  beside_gone (rows.Dropped by cause) beside none doc = refl
  beside_gone (rows.Sent job) beside none doc = sent_gone_same s event actor job (serves checking s job beside none) doc
  beside_gone (rows.Opened entry state d proc slot address) beside none doc = absurd beside
  beside_gone (rows.Accepted by d what) beside none doc = absurd beside
  beside_gone (rows.Prompted by d) beside none doc = absurd beside
  beside_gone (rows.Answered by stay) beside none doc = absurd beside
  beside_gone (rows.Taken proc job live dirty) beside none doc = absurd beside
  beside_gone (rows.Finished proc job outcome) beside none doc = absurd beside
  beside_gone (rows.Made proc made) beside none doc = absurd beside
  beside_gone (rows.Delivered proc) beside none doc = absurd beside
  beside_gone (rows.Killed proc death) beside none doc = absurd beside
  beside_gone (rows.Evicted state) beside none doc = absurd beside

  -- ---- beside the prompts that are to come

  module _ (start : Seen) (todo : ReqId → Option DocId) (nothing : NothingElseDue start todo s) (numbered : HaveNumbers s) (unnoted : (req : ReqId) → checking req ≡ false → todo req ≡ None) where
    -- an order that goes on with no request
    idle_aside : (job : Job) → IsServing job.task → IsNoQuestion job.task → is_of_run (row_of_kind s event actor (rows.Sent job)) ≡ false → ((req : ReqId) → goes_on_with req (row_of_kind s event actor (rows.Sent job)) ≡ false) → IsAside start todo s (row_of_kind s event actor (rows.Sent job))
    idle_aside job serves_ asks ends stays =
        record {
          ends = ends;
          quiet = λ r. refl;
          keeps = keeps_settled s _ (sent_keeps s event actor job asks);
          nothing = nothing;
          waits = λ req q found fresh settled un is. stays req;
        }

    -- one for a request that isn't in its check
    unnoted_for : (job : Job) → IsForOther checking job.why → (req : ReqId) → is_for req job ≡ true → todo req ≡ None
    unnoted_for job other req is = by_why job.why refl is
      where
        by_why : (why : Why) → job.why ≡ why → is_for req (record job { why = why }) ≡ true → todo req ≡ None
        by_why (whys.Req r) same e = ap todo (sym (req_same r req e)) ∙ unnoted r (other r same)
        by_why (whys.Death death) same e = cc
        by_why whys.Evict same e = cc
        by_why whys.Start same e = cc

    order_aside : (job : Job) (task : Task) → job.task ≡ task → SendsBeside checking s job task → IsServing task → IsAside start todo s (row_of_kind s event actor (rows.Sent job))
    order_aside job (tasks.Populate nav state address initial) is beside serves_ =
        sent_aside start todo s event actor nothing numbered job (subst IsServing (sym is) tt) (unnoted_for job beside)
    order_aside job (tasks.Activate entry epoch length index memo address) is beside serves_ =
        sent_aside start todo s event actor nothing numbered job (subst IsServing (sym is) tt) (unnoted_for job beside)
    order_aside job tasks.Freeze is beside serves_ =
        sent_aside start todo s event actor nothing numbered job (subst IsServing (sym is) tt) (unnoted_for job beside)
    order_aside job (tasks.Update length index) is beside serves_ =
        idle_aside job (subst IsServing (sym is) tt) (subst IsNoQuestion (sym is) tt) (rw is refl) (λ req. rw is (and_false (is_for req job)))
    order_aside job (tasks.DoFragment r mode address) is beside serves_ =
        idle_aside job (subst IsServing (sym is) tt) (subst IsNoQuestion (sym is) tt) (rw is refl) (λ req. rw is (and_false (is_for req job)))
    order_aside job (tasks.Ask slot cause) is beside serves_ = absurd beside
    order_aside job tasks.Discard is beside serves_ = absurd serves_

    pub beside_aside : (kind : RowKind) → GoesBeside checking s kind → discarded_by kind ≡ None → IsAside start todo s (row_of_kind s event actor kind)
    beside_aside (rows.Started by goal) beside none = started_aside start todo s event actor nothing by goal
    beside_aside (rows.Applied by change) beside none = applied_aside start todo s event actor nothing numbered by change beside.1 (unnoted by beside.0)
    beside_aside (rows.Refused by reason) beside none = refused_aside start todo s event actor nothing by reason beside.1
    beside_aside (rows.Dropped by cause) beside none = dropped_aside start todo s event actor nothing by cause
    beside_aside (rows.Sent job) beside none = order_aside job job.task refl beside (serves checking s job beside none)
    beside_aside (rows.Opened entry state doc proc slot address) beside none = absurd beside
    beside_aside (rows.Accepted by doc what) beside none = absurd beside
    beside_aside (rows.Prompted by doc) beside none = absurd beside
    beside_aside (rows.Answered by stay) beside none = absurd beside
    beside_aside (rows.Taken proc job live dirty) beside none = absurd beside
    beside_aside (rows.Finished proc job outcome) beside none = absurd beside
    beside_aside (rows.Made proc made) beside none = absurd beside
    beside_aside (rows.Delivered proc) beside none = absurd beside
    beside_aside (rows.Killed proc death) beside none = absurd beside
    beside_aside (rows.Evicted state) beside none = absurd beside
