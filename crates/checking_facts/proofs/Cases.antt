-- Single rows that ask, answer or begin, and what a row asks where it is for another request.
use Rattle.std.proofs.Common.{◌≡◌, inl, ℕ, Bool, true, false, [], Option, Some, sym, ap, ◌∙◌, subst}
use Rattle.tab_ids.specs.declared.DocId.{DocId}
use Rattle.tab_ids.specs.declared.ProcId.{ProcId}
use Rattle.tab_ids.specs.declared.ReqId.{ReqId}
use Rattle.tab_ids.specs.declared.Step.{Step}
use Rattle.log_model.specs.declared.handler.LeaveCause.{LeaveCause}
use Rattle.log_model.specs.declared.job.Job.{Job}
use Rattle.log_model.specs.declared.job.Task.{Task}
use Rattle.log_model.specs.declared.job.Task.TheVariants as tasks
use Rattle.log_model.specs.declared.job.Why.TheVariants as whys
use Rattle.log_model.specs.declared.row_kind.Actor.{Actor}
use Rattle.log_model.specs.declared.row_kind.RowKind.{RowKind}
use Rattle.log_model.specs.declared.row_kind.RowKind.TheVariants as rows
use Rattle.log_model.specs.After.{after}
use Rattle.log_model.specs.AfterPlaces.{sleepers_with}
use Rattle.log_model.specs.Places.{is_traversal}
use Rattle.log_model.specs.Seen.{Asked, Seen, request_of}
use Rattle.unasked_dues.specs.Checking.{IsForOther}
use Rattle.check_facts.specs.Rows.{IsNoQuestion}
use Rattle.checking_facts.specs.Checks.{AreInCheck, BeginsApart, IsForChecked, IsOwnFragment, NoneRunsInCheck, PutsNoneAsleep, SendsDuly}
use Rattle.checking_facts.specs.States.{IsUnspent, MakesOff}
use Rattle.checking_facts.proofs.Rows.{row_checks}

-- ---- orders

module _ (checking : ReqId → Bool) (s : Seen) (job : Job) where
  -- an order for a request that isn't in its check puts nobody to sleep for one that is
  pub other_wakes : IsForOther checking job.why → PutsNoneAsleep checking s job
  other_wakes other req why on = let never : true ≡ false = sym on ∙ other req why in absurd cc

  -- nor one with whose document nobody falls asleep
  pub none_wakes : sleepers_with s job.doc ≡ [] → PutsNoneAsleep checking s job
  none_wakes none req why on = none

  -- what is asked of an order, for a request that isn't in its check, that is no question, and sends no document to a fragment for another one
  pub other_sends : (task : Task) → IsNoQuestion task → IsOwnFragment job task → IsForOther checking job.why → SendsDuly checking s job task
  other_sends (tasks.Activate entry epoch length index memo address) is own other = other
  other_sends tasks.Freeze is own other = other_wakes other
  other_sends tasks.Discard is own other = other_wakes other
  other_sends (tasks.Ask slot cause) never own other = absurd never
  other_sends (tasks.Populate nav state address initial) is own other = tt
  other_sends (tasks.Update length index) is own other = tt
  other_sends (tasks.DoFragment req mode address) is own other = other req own

  -- what is asked of a question for a request in its check
  pub checked_asks : (req : ReqId) → job.why ≡ whys.Req req → checking req ≡ true → IsForChecked checking job
  checked_asks req why on r why_ =
      let same : whys.Req req ≡ whys.Req r = sym why ∙ why_ in
      let it : req ≡ r = cc in
      ap checking (sym it) ∙ on

-- ---- rows

module _ (checking : ReqId → Bool) (s : Seen) (event : ℕ) (actor : Actor) (are : AreInCheck checking s) where
  -- what the log has come to after a row of the kind
  abbrev pub next : RowKind → Seen
  next kind = after s (record { event = event; actor = actor; row = kind })

  -- an order that is no question, for a request that isn't in its check
  pub other_checks : (job : Job) → IsNoQuestion job.task → IsOwnFragment job job.task → MakesOff checking s job.task → IsForOther checking job.why → AreInCheck checking (next (rows.Sent job))
  other_checks job is own off other =
      row_checks checking s (record { event = event; actor = actor; row = rows.Sent job }) (other_sends checking s job job.task is own other) off are

  -- a question of a request in its check
  pub asked_checks : (job : Job) (slot : ℕ) (cause : LeaveCause) (req : ReqId) → job.task ≡ tasks.Ask slot cause → job.why ≡ whys.Req req → checking req ≡ true → AreInCheck checking (next (rows.Sent job))
  asked_checks job slot cause req task why on =
      row_checks checking s (record { event = event; actor = actor; row = rows.Sent job }) (subst (λ (t : Task). SendsDuly checking s job t) (sym task) (checked_asks checking s job req why on)) (subst (λ (t : Task). MakesOff checking s t) (sym task) tt) are

  -- the user is asked for it
  pub prompted_checks : (req : ReqId) (doc : DocId) → checking req ≡ true → AreInCheck checking (next (rows.Prompted req doc))
  prompted_checks req doc on =
      row_checks checking s (record { event = event; actor = actor; row = rows.Prompted req doc }) on tt are

  -- the user answers
  pub answered_checks : (req : ReqId) (stay : Bool) → checking req ≡ true → AreInCheck checking (next (rows.Answered req stay))
  answered_checks req stay on =
      row_checks checking s (record { event = event; actor = actor; row = rows.Answered req stay }) (λ off. let never : true ≡ false = sym on ∙ off in absurd cc) tt are

  -- a report is delivered, be it an answer
  pub delivered_checks : (proc : ProcId) → AreInCheck checking (next (rows.Delivered proc))
  delivered_checks proc =
      row_checks checking s (record { event = event; actor = actor; row = rows.Delivered proc }) tt tt are

  -- ---- a request begins

  -- one that isn't in its check
  pub begun_outside : (req : ReqId) (goal : Option Step) → checking req ≡ false → IsUnspent s req → ((q : Asked) → request_of s req ≡ Some q → is_traversal q.what ≡ true → NoneRunsInCheck checking s) → AreInCheck checking (next (rows.Started req goal))
  begun_outside req goal off unspent none =
      row_checks checking s (record { event = event; actor = actor; row = rows.Started req goal }) apart (inl off, unspent) are
    where
      apart : BeginsApart checking s req
      apart by q r at there other goes runs goes_ = rw off (none q at goes by r there runs goes_)
