-- What a row passes the test of unload checks by, for each kind of row.
use Rattle.std.proofs.Common.{◌≡◌, ℕ, Bool, true, false, not, ◌&&◌, Some, refl, sym, subst}
use Rattle.std.specs.Prelude.{is_some}
use Rattle.std.proofs.lemmas.Bool.{and_parts}
use Rattle.tab_ids.specs.declared.DocId.{DocId}
use Rattle.tab_ids.specs.declared.ProcId.{ProcId}
use Rattle.tab_ids.specs.declared.ReqId.{ReqId}
use Rattle.log_model.specs.declared.change.Change.{Change}
use Rattle.log_model.specs.declared.handler.LeaveCause.{LeaveCause}
use Rattle.log_model.specs.declared.job.Job.{Job}
use Rattle.log_model.specs.declared.job.Task.{Task}
use Rattle.log_model.specs.declared.job.Task.TheVariants as tasks
use Rattle.log_model.specs.declared.job.Why.{Why}
use Rattle.log_model.specs.declared.job.Why.TheVariants as whys
use Rattle.log_model.specs.declared.row_kind.Actor.{Actor}
use Rattle.log_model.specs.declared.row_kind.LogRow.{LogRow}
use Rattle.log_model.specs.declared.row_kind.RowKind.{RowKind}
use Rattle.log_model.specs.declared.row_kind.RowKind.TheVariants as rows
use Rattle.log_model.specs.Equal.{has_doc, holds, implies}
use Rattle.log_model.specs.Seen.{Seen, Document, Asked, document_of, request_of}
use Rattle.log_model.specs.Places.{all_asked, has_passed, shower_of}
use Rattle.log_model.specs.Events.{Point}
use Rattle.log_model.specs.Checks.{is_checked, is_checked_row, is_sent_in_time, may_be_left, may_be_sent, may_go_on, prompts_duly, settles_duly, was_asked}
use Rattle.seen_laws.proofs.Sendings.{both}
use Rattle.check_facts.specs.Prompting.{IsAskDue, is_asked}
use Rattle.check_facts.specs.Rows.{IsLeftDuly, IsPassing, IsUnchecked, IsUncheckedTask}

-- ---- a request goes on

-- it has passed its check, or is one that isn't checked
pub goes_on : (s : Seen) (req : ReqId) (q : Asked) → request_of s req ≡ Some q → (is_checked q ≡ true → has_passed s q ≡ true) → may_go_on s req ≡ true
goes_on s req q found passed = rw found (by_test (is_checked q) refl)
  where
    by_test : (b : Bool) → is_checked q ≡ b → implies b (has_passed s q) ≡ true
    by_test true is = passed is
    by_test false is = refl

-- ---- a document is left

-- why it may be: it was asked, or had no need to be
pub may_be_left_duly : (p : Point) (doc : DocId) (req : ReqId) (q : Asked) → request_of p.now req ≡ Some q → IsLeftDuly p doc q → may_be_left p doc req ≡ true
may_be_left_duly p doc req q found duly = rw found duly

-- it was asked for the request
pub left_asked : (p : Point) (doc : DocId) (q : Asked) → was_asked q doc ≡ true → IsLeftDuly p doc q
left_asked p doc q asked =
    rw asked (always (has_doc q.awake_then doc && is_some (shower_of p.start doc) && holds (λ (d : Document). is_some d.slot) (document_of p.now doc)))
  where
    always : (b : Bool) → implies b true ≡ true
    always true = refl
    always false = refl

-- no navigable was awake on it as the request began
pub left_unawake : (p : Point) (doc : DocId) (q : Asked) → has_doc q.awake_then doc ≡ false → IsLeftDuly p doc q
left_unawake p doc q unawake = rw unawake refl

-- no navigable was awake on it as the event began
pub left_unshown : (p : Point) (doc : DocId) (q : Asked) → is_some (shower_of p.start doc) ≡ false → IsLeftDuly p doc q
left_unshown p doc q unshown =
    by_tests (has_doc q.awake_then doc) (is_some (shower_of p.start doc)) (holds (λ (d : Document). is_some d.slot) (document_of p.now doc)) unshown
  where
    by_tests : (a b c : Bool) → b ≡ false → implies (a && b && c) (was_asked q doc) ≡ true
    by_tests true true c e = cc
    by_tests true false c e = refl
    by_tests false b c e = refl

-- it has no handler
pub left_unhandled : (p : Point) (doc : DocId) (q : Asked) (d : Document) → document_of p.now doc ≡ Some d → is_some d.slot ≡ false → IsLeftDuly p doc q
left_unhandled p doc q d found unhandled =
    rw found (rw unhandled (never (has_doc q.awake_then doc) (is_some (shower_of p.start doc))))
  where
    never : (a b : Bool) → implies (a && b && false) (was_asked q doc) ≡ true
    never true true = refl
    never true false = refl
    never false b = refl

-- ---- orders

module _ (p : Point) (event : ℕ) (actor : Actor) where
  abbrev pub kind_row : RowKind → LogRow
  kind_row kind = record { event = event; actor = actor; row = kind }

  -- in time, if it comes no sooner than it may for its request
  by_why : (job : Job) (task : Task) → ((req : ReqId) → job.why ≡ whys.Req req → may_be_sent p job.doc req task ≡ true) → is_sent_in_time p job.doc job.why task ≡ true
  by_why job task may = cases job.why refl
    where
      cases : (why : Why) → job.why ≡ why → is_sent_in_time p job.doc why task ≡ true
      cases (whys.Req req) is = may req is
      cases (whys.Death death) is = refl
      cases whys.Evict is = refl
      cases whys.Start is = refl

  -- by its task: the order itself, and what it settles
  by_task : (job : Job) (task : Task) → job.task ≡ task → (is_sent_in_time p job.doc job.why task && settles_duly p (kind_row (rows.Sent job)) task) ≡ true → is_checked_row p (kind_row (rows.Sent job)) ≡ true
  by_task job task is passes =
      subst (λ (t : Task). (is_sent_in_time p job.doc job.why t && settles_duly p (kind_row (rows.Sent job)) t) ≡ true) (sym is) passes

  -- a question
  pub ask_checked : (job : Job) (slot : ℕ) (cause : LeaveCause) → job.task ≡ tasks.Ask slot cause → is_checked_row p (kind_row (rows.Sent job)) ≡ true
  ask_checked job slot cause is =
      by_task job (tasks.Ask slot cause) is (both (by_why job (tasks.Ask slot cause) (λ req why. refl)) refl)

  -- a document is discarded: none is left unasked, and the prompts that it makes due come
  pub discard_checked : (job : Job) → job.task ≡ tasks.Discard → ((req : ReqId) → job.why ≡ whys.Req req → may_be_left p job.doc req ≡ true) → prompts_duly p (kind_row (rows.Sent job)) ≡ true → is_checked_row p (kind_row (rows.Sent job)) ≡ true
  discard_checked job is left duly =
      by_task job tasks.Discard is (both (by_why job tasks.Discard (λ req why. left req why)) duly)

  -- a document is frozen
  pub freeze_checked : (job : Job) → job.task ≡ tasks.Freeze → ((req : ReqId) → job.why ≡ whys.Req req → (may_go_on p.now req ≡ true) × (may_be_left p job.doc req ≡ true)) → is_checked_row p (kind_row (rows.Sent job)) ≡ true
  freeze_checked job is left =
      by_task job tasks.Freeze is (both (by_why job tasks.Freeze (λ req why. both (left req why).0 (left req why).1)) refl)

  -- a document is made or shown: its request has passed
  pub serving_checked : (job : Job) → IsPassing job.task → ((req : ReqId) → job.why ≡ whys.Req req → may_go_on p.now req ≡ true) → is_checked_row p (kind_row (rows.Sent job)) ≡ true
  serving_checked job serves passed = cases job.task refl serves
    where
      cases : (task : Task) → job.task ≡ task → IsPassing task → is_checked_row p (kind_row (rows.Sent job)) ≡ true
      cases (tasks.Populate nav state address initial) is serves =
          by_task job (tasks.Populate nav state address initial) is (both (by_why job (tasks.Populate nav state address initial) (λ req why. passed req why)) refl)
      cases (tasks.Activate entry epoch length index memo address) is serves =
          by_task job (tasks.Activate entry epoch length index memo address) is (both (by_why job (tasks.Activate entry epoch length index memo address) (λ req why. passed req why)) refl)
      cases _ is serves = absurd serves

  -- ---- reports, and the user

  -- a report is delivered: the prompts that it makes due come
  pub delivered_checked : (proc : ProcId) → prompts_duly p (kind_row (rows.Delivered proc)) ≡ true → is_checked_row p (kind_row (rows.Delivered proc)) ≡ true
  delivered_checked proc duly = duly

  -- the user is asked
  pub prompt_checked : (req : ReqId) (doc : DocId) → IsAskDue p.start p.now req → is_checked_row p (kind_row (rows.Prompted req doc)) ≡ true
  prompt_checked req doc due =
      let parts = and_parts (is_asked due.q.asks) (all_asked p.now due.q) due.settled in
      let open_ : not (all_asked p.start due.was) ≡ true = rw (due.open_then) refl in
      rw (due.found_then) (both open_ (rw (due.found) (parts.1)))

  -- a request is applied
  pub applied_checked : (req : ReqId) (change : Change) → may_go_on p.now req ≡ true → is_checked_row p (kind_row (rows.Applied req change)) ≡ true
  applied_checked req change passed = passed

  -- any other row
  pub other_checked : (kind : RowKind) → IsUnchecked kind → is_checked_row p (kind_row kind) ≡ true
  other_checked (rows.Opened entry state doc proc slot address) free = refl
  other_checked (rows.Accepted req doc what) free = refl
  other_checked (rows.Started req goal) free = refl
  other_checked (rows.Refused req reason) free = refl
  other_checked (rows.Dropped req cause) free = refl
  other_checked (rows.Answered req stay) free = refl
  other_checked (rows.Taken proc job live dirty) free = refl
  other_checked (rows.Finished proc job outcome) free = refl
  other_checked (rows.Made proc made) free = refl
  other_checked (rows.Killed proc death) free = refl
  other_checked (rows.Evicted state) free = refl
  other_checked (rows.Sent job) free = cases job.task refl free
    where
      cases : (task : Task) → job.task ≡ task → IsUnchecked (rows.Sent job) → is_checked_row p (kind_row (rows.Sent job)) ≡ true
      cases task is free = by_task job task is (plain task (subst (λ (t : Task). IsUncheckedTask t) is free))
        where
          plain : (task : Task) → IsUncheckedTask task → (is_sent_in_time p job.doc job.why task && settles_duly p (kind_row (rows.Sent job)) task) ≡ true
          plain (tasks.Update length index) free = both (by_why job (tasks.Update length index) (λ req why. refl)) refl
          plain (tasks.DoFragment req mode address) free = both (by_why job (tasks.DoFragment req mode address) (λ r why. refl)) refl
          plain (tasks.Ask slot cause) free = both (by_why job (tasks.Ask slot cause) (λ req why. refl)) refl
          plain _ free = absurd free
  other_checked (rows.Delivered proc) free = absurd free
  other_checked (rows.Applied req change) free = absurd free
  other_checked (rows.Prompted req doc) free = absurd free
