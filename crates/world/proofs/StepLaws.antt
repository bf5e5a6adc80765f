-- When an event is due.
use Rattle.std.proofs.Common.{◌≡◌, ℕ, ◌<◌, ◌≤◌, Bool, true, false, ◌&&◌, ◌==◌, List, length, Option, Some, None, Ok, Err, refl, ap, ◌∙◌, subst, arith}
use Rattle.std.specs.Prelude.{IsSome, IsSomeAnd, if◌then◌else◌}
use Rattle.std.proofs.lemmas.Bool.Decides.{nat_tests}
use Rattle.coord.proofs.Prompts.{not_prompted}
use Rattle.coord.specs.Evicting.{longest_in}
use Rattle.tab_ids.specs.declared.ProcId.{ProcId}
use Rattle.tab_ids.specs.declared.ReqId.{ReqId}
use Rattle.log_model.specs.declared.handler.HandlerKind.{HandlerKind}
use Rattle.log_model.specs.declared.header.Header.{Header}
use Rattle.log_model.specs.declared.job.Order.{Order}
use Rattle.log_model.specs.declared.row_kind.LogRow.{LogRow}
use Rattle.log_model.specs.Equal.{holds}
use Rattle.log_model.specs.Logs.{seen_of, is_prompt_up}
use Rattle.log_model.specs.Seen.{Seen, Desk, desk_of, request_of}
use Rattle.proc_work.proofs.SameLaws.{order_is}
use Rattle.proc_work.specs.Work as worked
use Rattle.world.specs.declared.event.Event.{Event}
use Rattle.world.specs.declared.event.Event.TheVariants as events
use Rattle.world.specs.declared.event.Reply.{Reply}
use Rattle.world.specs.declared.event.Reply.TheVariants as replies
use Rattle.world.specs.declared.state.State.{State}
use Rattle.world.specs.declared.error.StepError.{StepError}
use Rattle.world.specs.declared.error.StepError.TheVariants as errors
use Rattle.world.specs.Kept.{WorldState}
use Rattle.proc_tables.specs.Desks.{desk_at}
use Rattle.world.specs.Open.{IsOpen, row_limit}
use Rattle.world.specs.Finishing.{IsWorkedOutcome}
use Rattle.world.specs.Steps.{Steps, begin_idles, idle_at, idle_reply, is_work_on}
use Rattle.world.specs.Turns.{HasGone, Shuts}
use Rattle.world.proofs.EvictLaws.{evict_due}

same_at : (kinds : List HandlerKind) (desk other : ProcId → Desk) (s : Seen) (event : Event) → ((proc : ProcId) → desk proc ≡ other proc) → idle_at kinds desk s event ≡ idle_at kinds other s event
same_at kinds desk other s (events.Load nav mode address) same = refl
same_at kinds desk other s (events.Go delta) same = refl
same_at kinds desk other s (events.Poke nav action) same = refl
same_at kinds desk other s (events.Answer req stay) same = refl
same_at kinds desk other s events.Evict same = refl
same_at kinds desk other s (events.Act proc) same =
    ap (λ (d : Desk). let o : Option Reply = if length d.input == 0 then Some replies.Empty else None in o) (same proc)
same_at kinds desk other s (events.Begin proc) same = ap (λ (d : Desk). begin_idles d.in_hand (length d.mail)) (same proc)
same_at kinds desk other s (events.Finish proc done) same =
    ap (λ (d : Desk). let o : Option Reply = if holds (is_work_on kinds done) d.in_hand then None else Some replies.Stale in o) (same proc)
same_at kinds desk other s (events.Deliver proc) same =
    ap (λ (d : Desk). let o : Option Reply = if length d.reports == 0 then Some replies.Empty else None in o) (same proc)

and_left : (a b : Bool) → (a && b) ≡ true → a ≡ true
and_left true b e = refl
and_left false b e = cc

module _ (header : Header) (log : List LogRow) (t : State) (is : IsOpen header log t) where
  abbrev s : Seen
  s = seen_of log

  -- whether an event logs is read of the desks
  pub idle_is : (kinds : List HandlerKind) (event : Event) → idle_reply kinds s event ≡ idle_at kinds (desk_at t.desks) s event
  idle_is kinds event = same_at kinds (desk_of s) (desk_at t.desks) s event is.holds.desks

  -- ---- what an event that logs finds in its process

  -- where there is no such answer, something waits
  some_wait : (n : ℕ) (reply : Reply) → (let o : Option Reply = if n == 0 then Some reply else None in o) ≡ None → 0 < n
  some_wait n reply none = by_test (n == 0) refl none
    where
      by_test : (b : Bool) → (n == 0) ≡ b → (let o : Option Reply = if b then Some reply else None in o) ≡ None → 0 < n
      by_test true e none_ = cc
      by_test false e none_ = grind (arith, nat_tests, e)

  -- no prompt is up, so no answer to one logs
  pub answer_never : (kinds : List HandlerKind) (req : ReqId) (stay : Bool) → idle_reply kinds s (events.Answer req stay) ≡ None → ⊥
  answer_never kinds req stay due = by_test (holds is_prompt_up (request_of s req)) (not_prompted s t.coordinator is.keeps.stands req) due
    where
      by_test : (b : Bool) → false ≡ b → (let o : Option Reply = if b then None else Some replies.NoPrompt in o) ≡ None → ⊥
      by_test true never none_ = cc
      by_test false same none_ = cc

  pub evict_is_due : (kinds : List HandlerKind) → idle_reply kinds s events.Evict ≡ None → IsSome (longest_in (seen_of log))
  evict_is_due kinds due = evict_due header log t is (by_test (length s.kept == 0) due)
    where
      by_test : (b : Bool) → (let o : Option Reply = if b then Some replies.NothingKept else None in o) ≡ None → b ≡ false
      by_test true none_ = cc
      by_test false none_ = refl

  pub act_due : (kinds : List HandlerKind) (proc : ProcId) → idle_reply kinds s (events.Act proc) ≡ None → 0 < length (desk_at t.desks proc).input
  act_due kinds proc due = subst (λ (d : Desk). 0 < length d.input) (is.holds.desks proc) (some_wait _ replies.Empty due)

  pub deliver_due : (kinds : List HandlerKind) (proc : ProcId) → idle_reply kinds s (events.Deliver proc) ≡ None → 0 < length (desk_at t.desks proc).reports
  deliver_due kinds proc due = subst (λ (d : Desk). 0 < length d.reports) (is.holds.desks proc) (some_wait _ replies.Empty due)

  pub begin_due : (kinds : List HandlerKind) (proc : ProcId) → idle_reply kinds s (events.Begin proc) ≡ None → ((desk_at t.desks proc).in_hand ≡ None) × (0 < length (desk_at t.desks proc).mail)
  begin_due kinds proc due = subst (λ (d : Desk). (d.in_hand ≡ None) × (0 < length d.mail)) (is.holds.desks proc) (by_hand (desk_of s proc).in_hand refl due)
    where
      by_hand : (hand : Option Order) → (desk_of s proc).in_hand ≡ hand → begin_idles hand (length (desk_of s proc).mail) ≡ None → ((desk_of s proc).in_hand ≡ None) × (0 < length (desk_of s proc).mail)
      by_hand (Some order) e due_ = cc
      by_hand None e due_ = (e, some_wait _ replies.Empty due_)

  -- what is finished is the order in hand, worked on
  pub finish_due : (kinds : List HandlerKind) (proc : ProcId) (done : worked.Done) → idle_reply kinds s (events.Finish proc done) ≡ None → done ≡ worked.done_of done.order done.kind → IsSomeAnd (desk_at t.desks proc).in_hand (λ order. done ≡ worked.done_of order done.kind)
  finish_due kinds proc done due its = subst (λ (d : Desk). IsSomeAnd d.in_hand (λ order. done ≡ worked.done_of order done.kind)) (is.holds.desks proc) (by_hand (desk_of s proc).in_hand due)
    where
      by_test : (order : Order) (b : Bool) → is_work_on kinds done order ≡ b → (let o : Option Reply = if b then None else Some replies.Stale in o) ≡ None → done ≡ worked.done_of order done.kind
      by_test order true e due_ =
          let same : done.order ≡ order = order_is done.order order (and_left _ _ e) in
          its ∙ ap (λ (o : Order). worked.done_of o done.kind) same
      by_test order false e due_ = cc

      by_hand : (hand : Option Order) → (let o : Option Reply = if holds (is_work_on kinds done) hand then None else Some replies.Stale in o) ≡ None → IsSomeAnd hand (λ order. done ≡ worked.done_of order done.kind)
      by_hand (Some order) due_ = by_test order (is_work_on kinds done order) refl due_
      by_hand None due_ = cc

  -- so its outcome is one of that order
  pub worked_due : (proc : ProcId) (done : worked.Done) → IsSomeAnd (desk_at t.desks proc).in_hand (λ order. done ≡ worked.done_of order done.kind) → IsSomeAnd (desk_at t.desks proc).in_hand (λ order. IsWorkedOutcome order done.outcome)
  worked_due proc done = by_hand (desk_at t.desks proc).in_hand
    where
      by_hand : (hand : Option Order) → IsSomeAnd hand (λ order. done ≡ worked.done_of order done.kind) → IsSomeAnd hand (λ order. IsWorkedOutcome order done.outcome)
      by_hand (Some order) is = record { kind = done.kind; is = ap (λ (d : worked.Done). d.outcome) is }
      by_hand None never = elim never [ ]

-- ---- a step

module _ (w : WorldState) (t : State) (is : IsOpen w.header w.log t) (event : Event) where
  pub idle_steps : (reply : Reply) → idle_at w.kinds (desk_at t.desks) (seen_of w.log) event ≡ Some reply → Steps w event (Ok reply) w
  idle_steps reply idles = rw (idle_is w.header w.log t is w.kinds event ∙ idles) (refl, refl)

  module _ (due : idle_at w.kinds (desk_at t.desks) (seen_of w.log) event ≡ None) where
    pub is_due : idle_reply w.kinds (seen_of w.log) event ≡ None
    is_due = idle_is w.header w.log t is w.kinds event ∙ due

    pub full_steps : row_limit ≤ length w.log → Steps w event (Err errors.LogFull) w
    full_steps full = rw is_due (full, refl)

    pub gone_steps : (reply : Reply) (new : List LogRow) (next : State) → length w.log < row_limit → HasGone w.header event reply w.log new next → Steps w event (Ok reply) (record w { log = new })
    gone_steps reply new next short gone = rw is_due (short, gone.happened, refl)

    pub failed_steps : (error : StepError) → length w.log < row_limit → Shuts error → Steps w event (Err error) (record w { closed = true })
    failed_steps errors.Closed short shuts = elim shuts [ ]
    failed_steps errors.LogFull short shuts = elim shuts [ ]
    failed_steps (errors.UrlOverflow overflowed) short shuts = rw is_due (short, refl)
    failed_steps errors.OutOfMemory short shuts = rw is_due (short, refl)

-- an error that shuts is none of the others
pub shuts_apart : (error : StepError) → Shuts error → (error ≡ errors.Closed → ⊥) × (error ≡ errors.LogFull → ⊥)
shuts_apart errors.Closed shuts = elim shuts [ ]
shuts_apart errors.LogFull shuts = elim shuts [ ]
shuts_apart (errors.UrlOverflow overflowed) shuts = (λ e. cc, λ e. cc)
shuts_apart errors.OutOfMemory shuts = (λ e. cc, λ e. cc)
