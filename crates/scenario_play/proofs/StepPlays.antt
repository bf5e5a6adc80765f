-- A step of a world is the event of its line, or the line is passed over, or there is an error where the event was due.
use Rattle.std.proofs.Common.{◌≡◌, ℕ, ◌+◌, ◌<◌, Bool, true, false, not, ◌&&◌, ◌||◌, ◌==◌, List, [], ◌∷◌, ◌++◌, map, length, Option, Some, None, Result, Ok, Err, IsTrue, refl, sym, ap, ◌∙◌, subst, arith}
use Rattle.std.specs.Prelude.{IsSome, IsSomeAnd, slice_get, is_some, is_none, option_map, if◌then◌else◌}
use Rattle.std.proofs.lemmas.Bool.{eq-eqb}
use Rattle.tab_ids.specs.declared.ProcId.{ProcId}
use Rattle.tab_ids.specs.declared.ReqId.{ReqId}
use Rattle.log_model.specs.declared.handler.HandlerKind.{HandlerKind}
use Rattle.log_model.specs.declared.job.Job.{Job}
use Rattle.log_model.specs.declared.job.Order.{Order}
use Rattle.log_model.specs.declared.made.What.{What}
use Rattle.log_model.specs.declared.request.Request.TheVariants as requests
use Rattle.log_model.specs.declared.outcome.Denial.TheVariants as denials
use Rattle.log_model.specs.declared.request.Poke.{Poke}
use Rattle.log_model.specs.declared.row_kind.LogRow.{LogRow}
use Rattle.log_model.specs.declared.row_kind.RowKind.{RowKind}
use Rattle.log_model.specs.declared.row_kind.RowKind.TheVariants as rows
use Rattle.log_model.specs.After.{desk_taken}
use Rattle.log_model.specs.Events.{events_of, have_number}
use Rattle.log_model.specs.Legal.{IsLegal, opens}
use Rattle.log_model.specs.Equal.{holds}
use Rattle.log_model.specs.Logs.{seen_of, is_idle, in_hand_of, is_prompt_up, mail_of}
use Rattle.log_model.specs.Seen.{Seen, Desk, nothing, desk_of, request_of}
use Rattle.log_model.specs.Views.{View, made_by}
use Rattle.log_model.proofs.Laws.{next_event, events_fold, seen_of_append}
use Rattle.seen_laws.proofs.Desks.{desk_on_same}
use Rattle.scenario_text.specs.declared.line.ScenarioLine.{ScenarioLine}
use Rattle.scenario_text.specs.declared.line.ScenarioLine.TheVariants as lines
use Rattle.scenario_text.specs.Follows.{is_passed, is_actor, is_own, does, does_all, turn_of}
use Rattle.scenario_text.proofs.SameRequest.{same_request_itself}
use Rattle.world.specs.declared.error.StepError.{StepError}
use Rattle.world.specs.declared.error.StepError.TheVariants as errors
use Rattle.world.specs.declared.event.Event.{Event}
use Rattle.world.specs.declared.event.Event.TheVariants as events
use Rattle.world.specs.declared.event.Reply.{Reply}
use Rattle.world.specs.declared.event.Reply.TheVariants as replies
use Rattle.world.specs.Kept.{WorldState}
use Rattle.world.specs.Open.{view_in}
use Rattle.world.specs.Steps.{actor_of, act_row, acted_row, order_for, row_in, begin_idles, idle_reply, longest_kept, Begins, HasHappened, StepsAs, Steps}
use Rattle.proc_work.proofs.SameLaws.{order_itself}
use Rattle.scenario_play.specs.Courses.{Leads, Cuts, Plays, line_of, order_of, IsOfHand}
use Rattle.scenario_play.proofs.StepMoves.{idles_without}
use Rattle.scenario_play.proofs.LeadLaws.{leads_none, leads_event, cuts_here, all_done, all_leads, all_cuts, all_then, all_cut, all_last, all_appended, all_appended_cut, all_cut_front}

number_itself : (n : ℕ) → (n == n) ≡ true
number_itself n = eq-eqb n n refl

-- ---- a log that has opened

later_event : (n : ℕ) (log : List LogRow) → 0 < n → 0 < next_event n log
later_event n [] some = some
later_event n (row ∷ log) some = later_event (row.event + 1) log (omega arith)

-- it has an event
some_event : (log : List LogRow) → IsTrue (opens (events_of log)) → 0 < (seen_of log).events
unfolding opens events_of seen_of
some_event [] opened = let wrong : false ≡ true = opened in cc
some_event (row ∷ log) opened =
    subst (λ (n : ℕ). 0 < n) (sym (events_fold nothing (row ∷ log))) (later_event (row.event + 1) log (omega arith))

-- ---- the line of an event

-- an answer that a test tells
some_if : (b : Bool) (reply : Reply) → b ≡ is_some (if b then Some reply else None)
some_if true reply = refl
some_if false reply = refl

-- an answer where a test fails
none_if : (b : Bool) (reply : Reply) → not b ≡ is_some (let o : Option Reply = if b then None else Some reply in o)
none_if true reply = refl
none_if false reply = refl

-- the line is passed over where the event logs nothing
passed_is : (kinds : List HandlerKind) (log : List LogRow) (event : Event) → IsOfHand kinds log event → is_passed (seen_of log) (line_of event) ≡ is_some (idle_reply kinds (seen_of log) event)
passed_is kinds log (events.Load nav mode address) hand = refl
passed_is kinds log (events.Go delta) hand = refl
passed_is kinds log (events.Poke nav action) hand = refl
passed_is kinds log (events.Answer req stay) hand = none_if (holds is_prompt_up (request_of (seen_of log) req)) replies.NoPrompt
passed_is kinds log events.Evict hand = some_if (length (seen_of log).kept == 0) replies.NothingKept
passed_is kinds log (events.Act proc) hand = some_if (length (desk_of (seen_of log) proc).input == 0) replies.Empty
passed_is kinds log (events.Begin proc) hand = by_hand (in_hand_of log proc) (length (mail_of log proc))
  where
    by_hand : (order : Option Order) (waiting : ℕ) → (is_some order || waiting == 0) ≡ is_some (begin_idles order waiting)
    by_hand (Some order) waiting = refl
    by_hand None waiting = some_if (waiting == 0) replies.Empty
passed_is kinds log (events.Finish proc done) hand = rw hand.0 (rw (order_itself done.order, hand.1) refl)
passed_is kinds log (events.Deliver proc) hand = some_if (length (desk_of (seen_of log) proc).reports == 0) replies.Empty

-- what follows from what is there
of_some : {A : Type 0} {C : Type 0} (o : Option A) (P : A → Type 0) → ((x : A) → P x → C) → IsSomeAnd o P → C
of_some None P f some = elim some [ ]
of_some (Some x) P f some = f x some

-- its actor is the line's
actor_is : (event : Event) → is_actor (line_of event) (actor_of event) ≡ true
actor_is (events.Load nav mode address) = refl
actor_is (events.Go delta) = refl
actor_is (events.Poke nav action) = refl
actor_is (events.Answer req stay) = refl
actor_is events.Evict = refl
actor_is (events.Act proc) = number_itself proc.0
actor_is (events.Begin proc) = number_itself proc.0
actor_is (events.Finish proc done) = number_itself proc.0
actor_is (events.Deliver proc) = refl

same_stay : (stay : Bool) → (if stay then stay else not stay) ≡ true
same_stay true = refl
same_stay false = refl

-- and its own row
own_is : (s : Seen) (event : Event) (reply : Reply) (own : RowKind) (out : List RowKind) → Begins s event reply own out → is_own (line_of event) own ≡ true
own_is s (events.Load nav mode address) reply own out begins = rw begins.1 (same_request_itself (requests.Load nav mode address))
own_is s (events.Go delta) reply own out begins = rw begins.1 (same_request_itself (requests.Go delta))
own_is s (events.Poke nav action) reply own out begins = rw begins.1 (same_request_itself (requests.Poke nav action))
own_is s (events.Answer req stay) reply own out begins = rw (begins.1, number_itself req.0) (same_stay stay)
own_is s events.Evict reply own out begins = of_some (longest_kept s) _ (λ d is. rw is refl) begins.1
own_is s (events.Act proc) reply own out begins =
    of_some (slice_get (desk_of s proc).input 0) _ (λ poke is. rw is (by_view poke (view_in s poke.doc))) begins.2
  where
    by_made : (view : View) (req : ReqId) (made : Option What) → is_own (lines.Act proc) (act_row proc view req made) ≡ true
    by_made view req (Some what) = number_itself proc.0
    by_made view req None = refl

    by_view : (poke : Poke) (o : Option View) → is_own (lines.Act proc) (acted_row proc poke o) ≡ true
    by_view poke None = refl
    by_view poke (Some view) =
        elim view.running as (λ b. is_own (lines.Act proc) (if b then act_row proc view poke.req (made_by view poke.action) else rows.Refused poke.req denials.NoDocument) ≡ true) [
          | true ↦ by_made view poke.req (made_by view poke.action)
          | false ↦ refl
        ]
own_is s (events.Begin proc) reply own out begins =
    of_some (slice_get (desk_of s proc).mail 0) _ (λ job is. rw is.1 (number_itself proc.0)) begins.1
own_is s (events.Finish proc done) reply own out begins =
    of_some (desk_of s proc).in_hand _ (λ order is. rw is.1 (number_itself proc.0)) begins.1
own_is s (events.Deliver proc) reply own out begins = rw begins.1 (number_itself proc.0)

-- its rows have its number
numbered_is : (s : Seen) (event : Event) (kinds : List RowKind) → have_number s.events (map (row_in s event) kinds) ≡ true
numbered_is s event [] = refl
numbered_is s event (kind ∷ kinds) = rw (number_itself s.events) (numbered_is s event kinds)

-- ---- a step

-- the event has happened
happened_leads : (event : Event) (reply : Reply) (old new : List LogRow) → IsLegal old → is_passed (seen_of old) (line_of event) ≡ false → HasHappened event reply old new → Leads (does (line_of event)) old new
happened_leads event reply old new legal due happened =
    subst (λ (log : List LogRow). Leads (does (line_of event)) old log) (sym happened.log) (leads_event (line_of event) old (row_in (seen_of old) event happened.own) (map (row_in (seen_of old) event) happened.out) (some_event old legal.opened) due (rw (actor_is event) (own_is (seen_of old) event reply happened.own happened.out happened.begins)) (numbered_is (seen_of old) event (happened.own ∷ happened.out)))

cuts_as_it_stands : (line : ScenarioLine) (old new : List LogRow) → new ≡ old → is_passed (seen_of old) line ≡ false → Cuts (does line) old new
cuts_as_it_stands line old new same due = subst (λ (l : List LogRow). Cuts (does line) old l) (sym same) (cuts_here line old due)

answered_plays : (old new : WorldState) (event : Event) (idle : Option Reply) (result : Result Reply StepError) → IsLegal old.log → is_passed (seen_of old.log) (line_of event) ≡ is_some idle → StepsAs old event idle result new → Plays (does (line_of event)) old.log result new.log
answered_plays old new event (Some idle) (Ok reply) legal passed steps = rw steps.1 (leads_none (line_of event) old.log passed)
answered_plays old new event (Some idle) (Err error) legal passed steps = elim steps [ ]
answered_plays old new event None (Ok reply) legal passed steps =
    happened_leads event reply old.log new.log legal passed steps.1
answered_plays old new event None (Err errors.Closed) legal passed steps = elim steps [ ]
answered_plays old new event None (Err errors.LogFull) legal passed steps =
    cuts_as_it_stands (line_of event) old.log new.log (ap (λ (w : WorldState). w.log) steps.1) passed
answered_plays old new event None (Err (errors.UrlOverflow overflowed)) legal passed steps =
    cuts_as_it_stands (line_of event) old.log new.log (ap (λ (w : WorldState). w.log) steps.1) passed
answered_plays old new event None (Err errors.OutOfMemory) legal passed steps =
    cuts_as_it_stands (line_of event) old.log new.log (ap (λ (w : WorldState). w.log) steps.1) passed

-- a step of an open world plays the line of its event
pub step_plays : (old new : WorldState) (event : Event) (result : Result Reply StepError) → IsLegal old.log → IsOfHand old.kinds old.log event → Steps old event result new → Plays (does (line_of event)) old.log result new.log
step_plays old new event result legal hand steps =
    answered_plays old new event (idle_reply old.kinds (seen_of old.log) event) result legal (passed_is old.kinds old.log event hand) steps

-- ---- lines that are passed over, or due

pub begin_is_busy : (log : List LogRow) (proc : ProcId) (order : Order) → in_hand_of log proc ≡ Some order → Leads (does (lines.Begin proc)) log log
begin_is_busy log proc order hand = leads_none (lines.Begin proc) log (rw hand refl)

pub finish_has_none : (log : List LogRow) (proc : ProcId) → in_hand_of log proc ≡ None → Leads (does (lines.Finish proc)) log log
finish_has_none log proc hand = leads_none (lines.Finish proc) log (rw hand refl)

pub finish_is_due : (log : List LogRow) (proc : ProcId) (order : Order) → in_hand_of log proc ≡ Some order → Cuts (does (lines.Finish proc)) log log
finish_is_due log proc order hand = cuts_here (lines.Finish proc) log (rw hand refl)

-- the order in hand couldn't be copied
pub no_finish : (log : List LogRow) (proc : ProcId) → IsSome (in_hand_of log proc) → Cuts (does (lines.Finish proc)) log log
no_finish log proc some = by_hand (in_hand_of log proc) refl some
  where
    by_hand : (hand : Option Order) → in_hand_of log proc ≡ hand → IsSome hand → Cuts (does (lines.Finish proc)) log log
    by_hand None e some = cc
    by_hand (Some order) e some = finish_is_due log proc order e

-- ---- an order is taken up

pub took_is : (reply : Reply) (order : Order) → order_of reply ≡ Some order → reply ≡ replies.Took order
took_is (replies.Took o) order e = let same : o ≡ order = cc in ap (λ (x : Order). replies.Took x) same
took_is _ order e = cc

-- the order that was taken up is in hand
pub taken_in_hand : (old new : WorldState) (proc : ProcId) (reply : Reply) (order : Order) → Steps old (events.Begin proc) (Ok reply) new → order_of reply ≡ Some order → in_hand_of new.log proc ≡ Some order
taken_in_hand old new proc reply order steps taken = by_idle (idle_reply old.kinds (seen_of old.log) (events.Begin proc)) refl steps
  where
    s : Seen
    s = seen_of old.log

    event : Event
    event = events.Begin proc

    by_job : (happened : HasHappened (events.Begin proc) reply old.log new.log) (job : Job) → slice_get (desk_of s proc).mail 0 ≡ Some job → (reply ≡ replies.Took (order_for s job)) × (happened.own ≡ rows.Taken proc job.nr true (order_for s job).dirty) → in_hand_of new.log proc ≡ Some order
    by_job happened job at is =
        ap (λ (log : List LogRow). in_hand_of log proc) (happened.log ∙ (ap (λ (kind : RowKind). old.log ++ row_in s event kind ∷ map (row_in s event) happened.out) is.1 ∙ ap (λ (kinds : List RowKind). old.log ++ row_in s event (rows.Taken proc job.nr true (order_for s job).dirty) ∷ map (row_in s event) kinds) happened.begins.0))
        ∙ ap (λ (t : Seen). (desk_of t proc).in_hand) (seen_of_append old.log (row_in s event (rows.Taken proc job.nr true (order_for s job).dirty) ∷ []))
        ∙ ap (λ (d : Desk). d.in_hand) (desk_on_same (desk_taken true (order_for s job).dirty) s.desks proc (λ d. refl))
        ∙ (ap (λ (o : Option Job). option_map (λ (j : Job). let order_ : Order = record { job = j; dirty = (order_for s job).dirty } in order_) o) at ∙ (sym (ap order_of is.0) ∙ taken))

    by_first : (happened : HasHappened (events.Begin proc) reply old.log new.log) (first : Option Job) → slice_get (desk_of s proc).mail 0 ≡ first → IsSomeAnd first (λ job. (reply ≡ replies.Took (order_for s job)) × (happened.own ≡ rows.Taken proc job.nr true (order_for s job).dirty)) → in_hand_of new.log proc ≡ Some order
    by_first happened None at some = elim some [ ]
    by_first happened (Some job) at some = by_job happened job at some

    by_idle : (idle : Option Reply) → idle_reply old.kinds s (events.Begin proc) ≡ idle → StepsAs old (events.Begin proc) idle (Ok reply) new → in_hand_of new.log proc ≡ Some order
    by_idle (Some answer) e steps =
        let none : order_of answer ≡ None = idles_without (in_hand_of old.log proc) (length (mail_of old.log proc)) answer e in
        let some : order_of answer ≡ Some order = ap order_of (sym steps.0) ∙ taken in
        cc
    by_idle None e steps = by_first steps.1 (slice_get (desk_of s proc).mail 0) refl steps.1.begins.1

-- where none was, nothing happened
pub none_taken : (old new : WorldState) (proc : ProcId) (reply : Reply) → Steps old (events.Begin proc) (Ok reply) new → order_of reply ≡ None → new ≡ old
none_taken old new proc reply steps taken = by_idle (idle_reply old.kinds (seen_of old.log) (events.Begin proc)) steps
  where
    by_idle : (idle : Option Reply) → StepsAs old (events.Begin proc) idle (Ok reply) new → new ≡ old
    by_idle (Some answer) steps = steps.1
    by_idle None steps =
        of_some (slice_get (desk_of (seen_of old.log) proc).mail 0) _ (λ job is. let some : order_of reply ≡ Some (order_for (seen_of old.log) job) = ap order_of is.0 in cc) steps.1.begins.1

-- ---- the work of a turn

-- a process that took up an order finishes it
pub works : {T E : Type 0} (proc : ProcId) (a b c : List LogRow) (result : Result T E) → Leads (does (lines.Begin proc)) a b → Plays (does (lines.Finish proc)) b result c → Plays (does_all (lines.Begin proc ∷ lines.Finish proc ∷ [])) a result c
works proc a b c result first second =
    all_then (lines.Begin proc) (lines.Finish proc ∷ []) a b c result first (all_last (lines.Finish proc) b c result second)

-- one with an order in hand finishes that
pub works_on : {T E : Type 0} (proc : ProcId) (order : Order) (a b : List LogRow) (result : Result T E) → in_hand_of a proc ≡ Some order → Plays (does (lines.Finish proc)) a result b → Plays (does_all (lines.Begin proc ∷ lines.Finish proc ∷ [])) a result b
works_on proc order a b result hand second = works proc a a b result (begin_is_busy a proc order hand) second

-- and there was none to take up
pub no_work : (proc : ProcId) (a b : List LogRow) → Leads (does (lines.Begin proc)) a b → in_hand_of b proc ≡ None → Leads (does_all (lines.Begin proc ∷ lines.Finish proc ∷ [])) a b
no_work proc a b first hand =
    all_leads (lines.Begin proc) (lines.Finish proc ∷ []) a b b first (all_leads (lines.Finish proc) [] b b b (finish_has_none b proc hand) (all_done b))

-- the order in hand couldn't be copied
pub no_copy : (log : List LogRow) (proc : ProcId) → IsSome (in_hand_of log proc) → Cuts (does_all (lines.Begin proc ∷ lines.Finish proc ∷ [])) log log
no_copy log proc some = by_hand (in_hand_of log proc) refl some
  where
    by_hand : (hand : Option Order) → in_hand_of log proc ≡ hand → IsSome hand → Cuts (does_all (lines.Begin proc ∷ lines.Finish proc ∷ [])) log log
    by_hand None e some = cc
    by_hand (Some order) e some =
        all_cuts (lines.Begin proc) (lines.Finish proc ∷ []) log log log (begin_is_busy log proc order e) (all_cut (lines.Finish proc) [] log log (finish_is_due log proc order e))

-- ---- a turn

-- a process acts, works, and a report of it is delivered
pub turn_leads : (proc : ProcId) (a b c d : List LogRow) → Leads (does (lines.Act proc)) a b → Leads (does_all (lines.Begin proc ∷ lines.Finish proc ∷ [])) b c → Leads (does (lines.Deliver proc)) c d → Leads (does_all (turn_of proc)) a d
turn_leads proc a b c d act work deliver =
    all_leads (lines.Act proc) _ a b d act (all_appended (lines.Begin proc ∷ lines.Finish proc ∷ []) (lines.Deliver proc ∷ []) b c d work (all_leads (lines.Deliver proc) [] c d d deliver (all_done d)))

pub turn_cut_late : (proc : ProcId) (a b c d : List LogRow) → Leads (does (lines.Act proc)) a b → Leads (does_all (lines.Begin proc ∷ lines.Finish proc ∷ [])) b c → Cuts (does (lines.Deliver proc)) c d → Cuts (does_all (turn_of proc)) a d
turn_cut_late proc a b c d act work deliver =
    all_cuts (lines.Act proc) _ a b d act (all_appended_cut (lines.Begin proc ∷ lines.Finish proc ∷ []) (lines.Deliver proc ∷ []) b c d work (all_cut (lines.Deliver proc) [] c d deliver))

pub turn_cut_at_work : (proc : ProcId) (a b c : List LogRow) → Leads (does (lines.Act proc)) a b → Cuts (does_all (lines.Begin proc ∷ lines.Finish proc ∷ [])) b c → Cuts (does_all (turn_of proc)) a c
turn_cut_at_work proc a b c act work =
    all_cuts (lines.Act proc) _ a b c act (all_cut_front (lines.Begin proc ∷ lines.Finish proc ∷ []) (lines.Deliver proc ∷ []) b c work)

-- nothing waits in the process
idle_parts : (a b c d : Bool) → (a && b && c && d) ≡ true → (a ≡ true) × (b ≡ true) × (c ≡ true) × (d ≡ true)
idle_parts true true true true e = (refl, refl, refl, refl)
idle_parts true true true false e = cc
idle_parts true true false d e = cc
idle_parts true false c d e = cc
idle_parts false b c d e = cc

or_true : (b : Bool) → (b || true) ≡ true
or_true true = refl
or_true false = refl

pub turn_is_idle : (log : List LogRow) (proc : ProcId) → is_idle (desk_of (seen_of log) proc) ≡ true → Leads (does_all (turn_of proc)) log log
turn_is_idle log proc waits_none =
    let desk : Desk = desk_of (seen_of log) proc in
    let parts = idle_parts (length desk.input == 0) (length desk.mail == 0) (is_none desk.in_hand) (length desk.reports == 0) waits_none in
    turn_leads proc log log log log (leads_none (lines.Act proc) log parts.0) (all_leads (lines.Begin proc) (lines.Finish proc ∷ []) log log log (leads_none (lines.Begin proc) log (rw parts.1 (or_true (is_some desk.in_hand)))) (all_leads (lines.Finish proc) [] log log log (leads_none (lines.Finish proc) log parts.2) (all_done log))) (leads_none (lines.Deliver proc) log parts.3)
