-- Documents that orders freeze or discard, where the facts speak of the log as it would be had nobody been asked: so in the log they may be left, for the same reasons.
use Rattle.seen_laws.proofs.InEvents.{now_is}
use Rattle.std.proofs.Common.{◌≡◌, Bool, false, List, Option, Some, None, refl, sym, ap, ◌∙◌, subst}
use Rattle.tab_ids.specs.declared.DocId.{DocId}
use Rattle.tab_ids.specs.declared.NavId.{NavId}
use Rattle.tab_ids.specs.declared.ReqId.{ReqId}
use Rattle.tab_ids.specs.declared.StateId.{StateId}
use Rattle.log_model.specs.History.{has_state}
use Rattle.log_model.specs.Orders.{ongoing_load}
use Rattle.log_model.specs.Seen.{Document, Place, Seen, document_of, place_of}
use Rattle.log_model.specs.Suits.{kept_with, newly_left}
use Rattle.log_model.specs.declared.header.Header.{Header}
use Rattle.log_model.specs.declared.job.Job.{Job}
use Rattle.log_model.specs.declared.row_kind.LogRow.{LogRow}
use Rattle.log_model.specs.declared.row_kind.RowKind.{RowKind}
use Rattle.row_facts.specs.LeaveRows.Evicting.{IsBelowDue, IsKeptLast, IsUnneededDue}
use Rattle.row_facts.specs.LeaveRows.Freezing.{IsFreezeDue}
use Rattle.row_facts.specs.LeaveRows.Leaving.{IsDiscardOf, IsLeaveDue, IsTooMany}
use Rattle.row_facts.specs.LeaveRows.MayLeave.{IsBelowLeft, IsDiscardLeft, IsFreezeLeft, IsGoneLeft, IsKeptLeft, IsLastLeft, IsUnneededLeft, MayBeLeft}
use Rattle.seen_laws.specs.Blocks.{Here}
use Rattle.seen_laws.specs.InEvent.{InEvent, here_of, log_of, now_of}
use Rattle.seen_laws.specs.Sending.{IsNumbered}
use Rattle.seen_laws.specs.Unasked.{unasked, unhandled}
use Rattle.tab_doors.proofs.Works.{aimed_log}
use Rattle.tab_doors.specs.Keeping.{Move}
use Rattle.tab_doors.specs.Working.{IsAtWorkFor, IsAtWorkIn}
use Rattle.tab_doors.specs.declared.tables.Tables.{Tables}
use Rattle.unasked_dues.proofs.Base.{document_from}
use Rattle.unasked_dues.proofs.Leaves.{below_left, discard_left, freeze_left, gone_left, kept_left, kept_same, last_left, newly_left_same, too_many, unneeded_left}
use Rattle.unasked_dues.proofs.Shows.{numbered_in}
use Rattle.unasked_dues.specs.Checking.{IsForOther}
use Rattle.checking_facts.proofs.States.{of_document}

-- the document as the log has it
pub record IsInLog (e : InEvent) (out : List RowKind) (doc : DocId) (bare : Document) : Type 0 where
  pub d : Document
  pub found : document_of (log_of e out) doc ≡ Some d
  pub is : bare ≡ unhandled d

-- and it may be left, where the order discards it
pub record IsLeftAs (e : InEvent) (out : List RowKind) (job : Job) (bare : Document) : Type 0 where
  pub d : Document
  pub is : bare ≡ unhandled d
  pub discards : IsDiscardLeft (here_of e out) job d

-- or freezes it, which a navigable was awake on as the event began
pub record IsFrozenAs (e : InEvent) (out : List RowKind) (job : Job) (place : Place) : Type 0 where
  pub d : Document
  pub freezes : IsFreezeLeft (here_of e out) job d
  pub place_is : freezes.place ≡ place

-- ---- the log, read off

module _ (e : InEvent) (out : List RowKind) (same : now_of e out ≡ unasked e.checking (log_of e out)) where
  abbrev checking : ReqId → Bool
  checking = e.checking

  abbrev now : Seen
  now = log_of e out

  -- where the event stands, with the log as it would be had nobody been asked
  abbrev pub seen_at : Here
  seen_at = record (here_of e out) { now = now_of e out }

  -- a document that the facts know is there in the log
  pub in_log : (doc : DocId) (bare : Document) → document_of (now_of e out) doc ≡ Some bare → IsInLog e out doc bare
  in_log doc bare found =
      let from = document_from checking now doc bare (subst (λ (x : Seen). document_of x doc ≡ Some bare) same found) in
      record { d = from.0; found = from.1; is = from.2 }

  -- the order is numbered
  pub numbered_log : (job : Job) → IsNumbered (now_of e out) job → IsNumbered now job
  numbered_log job is = numbered_in checking now job (subst (λ (x : Seen). IsNumbered x job) same is)

  -- places and kept documents are the same
  pub placed_log : (nav : NavId) (place : Place) → place_of (now_of e out) nav ≡ Some place → place_of now nav ≡ Some place
  placed_log nav place is = subst (λ (x : Seen). place_of x nav ≡ Some place) same is

  pub kept_log : (left : Option DocId) → kept_with (now_of e out) left ≡ kept_with now left
  kept_log left = ap (λ (x : Seen). kept_with x left) same ∙ kept_same checking now left

  -- and what later rows leave first
  pub leaves_log : (later : List LogRow) → newly_left (now_of e out) later ≡ newly_left now later
  leaves_log later = ap (λ (x : Seen). newly_left x later) same ∙ newly_left_same checking now later

  -- ---- orders

  -- a document is discarded that may be left
  pub discards_log : (job : Job) (bare : Document) → MayBeLeft (here_of e out) job → IsDiscardOf (now_of e out) job bare → IsLeftAs e out job bare
  discards_log job bare left due =
      let its = in_log job.doc bare due.to.found in
      record { d = its.d; is = its.is; discards = discard_left checking (here_of e out) seen_at same job its.d bare its.found its.is left due }

  -- ---- why one is discarded

  module _ (job : Job) (bare : Document) (its : IsLeftAs e out job bare) where
    -- it was shown last
    pub last_log : IsLeaveDue (now_of e out) job bare → IsLastLeft (here_of e out) job its.d
    last_log due = last_left checking (here_of e out) seen_at same job its.d bare its.discards its.is due

    -- with it too many are kept
    pub many_log : (header : Header) → IsTooMany header (now_of e out) bare → IsTooMany header now its.d
    many_log header many =
        too_many checking now header its.d (subst (λ (x : Document). IsTooMany header (unasked checking now) x) its.is (subst (λ (x : Seen). IsTooMany header x bare) same many))

    -- it is kept
    pub kept_last_log : (left : Option DocId) → IsKeptLast (now_of e out) job bare left → IsKeptLeft (here_of e out) job its.d left
    kept_last_log left due = kept_left checking (here_of e out) seen_at same job its.d bare left its.discards its.is due

    -- it is below one that is gone
    pub below_log : IsBelowDue (now_of e out) job bare → IsBelowLeft (here_of e out) job its.d
    below_log due = below_left checking (here_of e out) seen_at same job its.d bare its.discards its.is due

-- ---- where the coordinator works

module _ {sweeps : Bool} {move : Option Move} (e : InEvent) (out : List RowKind) (t : Tables) (work : IsAtWorkIn sweeps move e out t) where
  -- its document state has no entry, and is no ongoing load's
  pub gone_log : (job : Job) (bare : Document) (its : IsLeftAs e out job bare) → has_state bare.state (now_of e out).history.rows ≡ false → ongoing_load (now_of e out) bare.state ≡ None → IsGoneLeft (here_of e out) job its.d
  gone_log job bare its gone unloaded =
      let state_is : bare.state ≡ its.d.state = ap (λ (x : Document). x.state) its.is in
      gone_left e.checking (here_of e out) (seen_at e out (now_is e out)) (now_is e out) work.checks.numbered job its.d its.discards (of_document e.checking (log_of e out) work.checks.states job.doc its.d its.discards.to.found)
      (subst (λ (x : StateId). has_state x (now_of e out).history.rows ≡ false) state_is gone)
      (subst (λ (x : StateId). ongoing_load (now_of e out) x ≡ None) state_is unloaded)

module _ {move : Option Move} (e : InEvent) (out : List RowKind) (t : Tables) (work : IsAtWorkFor move e out t) where
  -- nothing needs it as it is made
  pub unneeded_log : (job : Job) (bare : Document) (its : IsLeftAs e out job bare) → IsUnneededDue (seen_at e out (now_is e out)) job bare → IsUnneededLeft (here_of e out) job its.d
  unneeded_log job bare its due =
      unneeded_left e.checking (here_of e out) (seen_at e out (now_is e out)) (now_is e out) (aimed_log e out t work) job its.d bare its.discards its.is (of_document e.checking (log_of e out) work.checks.states job.doc its.d its.discards.to.found) due due.begins due.slot due.tells

  -- one is frozen that may be left
  pub freezes_log : (job : Job) (bare : Document) → MayBeLeft (here_of e out) job → IsForOther e.checking job.why → (due : IsFreezeDue (seen_at e out (now_is e out)) job bare) → IsFrozenAs e out job due.place
  freezes_log job bare left for_other due =
      let its = in_log e out (now_is e out) job.doc bare due.to.found in
      let freezes : IsFreezeLeft (here_of e out) job its.d = freeze_left e.checking (here_of e out) (seen_at e out (now_is e out)) (now_is e out) (aimed_log e out t work) work.checks.others refl job its.d bare its.found its.is left for_other due in
      let both : Some freezes.place ≡ Some due.place = sym freezes.was_awake ∙ due.was_awake in
      record { d = its.d; freezes = freezes; place_is = cc }
