-- Documents that are asked to leave answer by the kinds of their handlers: an event more keeps it.
use Rattle.std.proofs.Common.{◌≡◌, ℕ, ◌<◌, Bool, true, false, ◌&&◌, List, [], ◌∷◌, ◌++◌, map, fold, Option, Some, None, refl, sym, ap, ◌∙◌, subst, arith}
use Rattle.std.specs.Prelude.{IsSomeAnd, slice_get, if◌then◌else◌}
use Rattle.std.proofs.lemmas.Bool.Decides.{nat_tests}
use Rattle.std.proofs.lemmas.List.Sums.{fold-append}
use Rattle.tab_ids.specs.declared.ProcId.{ProcId}
use Rattle.log_model.specs.declared.handler.HandlerKind.{HandlerKind}
use Rattle.log_model.specs.declared.handler.HandlerKind.TheVariants as kinds
use Rattle.log_model.specs.declared.handler.Verdict.{Verdict}
use Rattle.log_model.specs.declared.handler.Verdict.TheVariants as verdicts
use Rattle.log_model.specs.declared.job.Order.{Order}
use Rattle.log_model.specs.declared.job.Task.{Task}
use Rattle.log_model.specs.declared.job.Task.TheVariants as tasks
use Rattle.log_model.specs.declared.made.What.{What}
use Rattle.log_model.specs.declared.outcome.Denial.TheVariants as denials
use Rattle.log_model.specs.declared.outcome.Outcome.{Outcome}
use Rattle.log_model.specs.declared.request.Poke.{Poke}
use Rattle.log_model.specs.declared.row_kind.Actor.TheVariants as actors
use Rattle.log_model.specs.declared.row_kind.LogRow.{LogRow}
use Rattle.log_model.specs.declared.row_kind.RowKind.{RowKind}
use Rattle.log_model.specs.declared.row_kind.RowKind.TheVariants as rows
use Rattle.log_model.specs.After.{after}
use Rattle.log_model.specs.Equal.{same_option}
use Rattle.log_model.specs.Events.{Point, AtEachEvent, after_opening, events_of, each_point, each_row, have_number}
use Rattle.log_model.specs.Formed.{is_formed_row, is_in_its_place, is_said_rightly, may_follow}
use Rattle.log_model.specs.Legal.{IsLegal, is_formed}
use Rattle.log_model.specs.Logs.{seen_of}
use Rattle.log_model.specs.Seen.{Seen, nothing, desk_of}
use Rattle.log_model.specs.Views.{View, made_by}
use Rattle.log_model.proofs.EventLaws.{BeginsWith, at_each_event_more, each_event-append, events_of-append, events_of_begins, events_of_one, flat, flat-events_of}
use Rattle.log_model.proofs.Laws.{next_event, events_fold}
use Rattle.log_model.proofs.Refl.{nat_eq_refl}
use Rattle.seen_laws.proofs.Sendings.{both}
use Rattle.proc_work.specs.Answers.{AnswersBy, has_kind_of, is_answer_of, is_answered_row, same_kind, same_verdict}
use Rattle.proc_work.specs.Work.{Done, done_of, outcome_of_task, verdict_of}
use Rattle.world.specs.declared.event.Event.{Event}
use Rattle.world.specs.declared.event.Event.TheVariants as events
use Rattle.world.specs.declared.event.Reply.{Reply}
use Rattle.world.specs.declared.event.Reply.TheVariants as replies
use Rattle.world.specs.Open.{view_in}
use Rattle.world.specs.Shows.{made_at_end}
use Rattle.world.specs.Steps.{Begins, HasHappened, act_row, acted_row, idle_reply, is_work_on, longest_kept, row_in, rows_of_made}

-- ---- what holds at each event holds of the last one

and_parts : (a b : Bool) → (a && b) ≡ true → (a ≡ true) × (b ≡ true)
and_parts true b e = (refl, e)
and_parts false b e = cc

last_passes : (test : Seen → List LogRow → Bool) (opening : List LogRow) (others : List (List LogRow)) (new : List LogRow) → after_opening test ((opening ∷ others) ++ new ∷ []) ≡ true → test (fold after nothing (opening ++ flat others)) new ≡ true
unfolding after_opening
last_passes test opening others new each =
    let parts = and_parts _ _ (sym (each_event-append test (fold after nothing opening) others new) ∙ each) in
    subst (λ (s : Seen). test s new ≡ true) (sym (fold-append (λ (t : Seen) (r : LogRow). after t r) nothing opening (flat others))) parts.1

last_event : (test : Seen → List LogRow → Bool) (log : List LogRow) (first : LogRow) (rows : List LogRow) → 0 < (seen_of log).events → have_number (seen_of log).events (first ∷ rows) ≡ true → AtEachEvent test (log ++ first ∷ rows) → test (seen_of log) (first ∷ rows) ≡ true
unfolding AtEachEvent seen_of
last_event test [] first rows some number each = absurd (omega arith)
last_event test (row ∷ log) first rows some number each =
    let next : next_event 0 (row ∷ log) ≡ first.event =
    let is : (seen_of (row ∷ log)).events ≡ next_event 0 (row ∷ log) = events_fold nothing (row ∷ log) in
    let here : first.event ≡ (seen_of (row ∷ log)).events = grind (arith, nat_tests) in sym is ∙ sym here in
    let one : events_of (first ∷ rows) ≡ (first ∷ rows) ∷ [] = events_of_one _ first rows number in
    let split : events_of ((row ∷ log) ++ first ∷ rows) ≡ events_of (row ∷ log) ++ (first ∷ rows) ∷ [] = events_of-append 0 row log first rows next ∙ ap (λ (e : List (List LogRow)). events_of (row ∷ log) ++ e) one in
    let begins : BeginsWith row (events_of (row ∷ log)) = events_of_begins row log in
    let whole : after_opening test (((row ∷ begins.rows) ∷ begins.others) ++ (first ∷ rows) ∷ []) ≡ true = ap (λ (e : List (List LogRow)). after_opening test (e ++ (first ∷ rows) ∷ [])) (sym begins.is) ∙ ap (after_opening test) (sym split) ∙ each in
    let state : fold after nothing ((row ∷ begins.rows) ++ flat begins.others) ≡ seen_of (row ∷ log) = ap (λ (e : List (List LogRow)). fold after nothing (flat e)) (sym begins.is) ∙ ap (λ (l : List LogRow). fold after nothing l) (flat-events_of (row ∷ log)) in
    subst (λ (s : Seen). test s (first ∷ rows) ≡ true) state (last_passes test (row ∷ begins.rows) begins.others (first ∷ rows) whole)

-- ---- only an event's own row finishes an order

follows_plain : (slots : List HandlerKind) (p : Point) (own : RowKind) (row : LogRow) → may_follow own row.row ≡ true → is_answered_row slots p row ≡ true
follows_plain slots p own row follows = by_kind row.row refl
  where
    never : (own : RowKind) (proc : ProcId) (job : _) (outcome : Outcome) → may_follow own (rows.Finished proc job outcome) ≡ false
    never (rows.Opened entry state doc of slot address) proc job outcome = refl
    never (rows.Accepted req doc what) proc job outcome = refl
    never (rows.Started req goal) proc job outcome = refl
    never (rows.Applied req change) proc job outcome = refl
    never (rows.Refused req reason) proc job outcome = refl
    never (rows.Dropped req cause) proc job outcome = refl
    never (rows.Prompted req doc) proc job outcome = refl
    never (rows.Answered req stay) proc job outcome = refl
    never (rows.Sent one) proc job outcome = refl
    never (rows.Taken of one live dirty) proc job outcome = refl
    never (rows.Finished of one end) proc job outcome = refl
    never (rows.Made of made) proc job outcome = refl
    never (rows.Delivered of) proc job outcome = refl
    never (rows.Killed of death) proc job outcome = refl
    never (rows.Evicted state) proc job outcome = refl

    by_kind : (kind : RowKind) → row.row ≡ kind → is_answered_row slots p row ≡ true
    by_kind (rows.Opened entry state doc proc slot address) e = rw e refl
    by_kind (rows.Accepted req doc what) e = rw e refl
    by_kind (rows.Started req goal) e = rw e refl
    by_kind (rows.Applied req change) e = rw e refl
    by_kind (rows.Refused req reason) e = rw e refl
    by_kind (rows.Dropped req cause) e = rw e refl
    by_kind (rows.Prompted req doc) e = rw e refl
    by_kind (rows.Answered req stay) e = rw e refl
    by_kind (rows.Sent job) e = rw e refl
    by_kind (rows.Taken proc job live dirty) e = rw e refl
    by_kind (rows.Finished proc job outcome) e =
        let wrong : false ≡ true = sym (never own proc job outcome) ∙ ap (may_follow own) (sym e) ∙ follows in
        cc
    by_kind (rows.Made proc made) e = rw e refl
    by_kind (rows.Delivered proc) e = rw e refl
    by_kind (rows.Killed proc death) e = rw e refl
    by_kind (rows.Evicted state) e = rw e refl

rest_plain : (slots : List HandlerKind) (start now : Seen) (own : LogRow) (done later : List LogRow) → each_point is_formed_row start now (own ∷ done) later ≡ true → each_point (is_answered_row slots) start now (own ∷ done) later ≡ true
rest_plain slots start now own done [] formed = refl
rest_plain slots start now own done (row ∷ later) formed =
    let p : Point = record { start = start; now = now; done = own ∷ done; later = later } in
    let here = and_parts _ _ formed in
    let place = and_parts (is_in_its_place p row) (is_said_rightly p row) here.0 in
    both (follows_plain slots p own.row row place.0) (rest_plain slots start (after now row) own (done ++ row ∷ []) later here.1)

-- ---- the own row

some_and : {A : Type 0} (P : A → Type 0) (o : Option A) (C : Type 0) → IsSomeAnd o P → ((a : A) → o ≡ Some a → P a → C) → C
some_and P None C some f = elim some [ ]
some_and P (Some a) C some f = f a refl some

kind_is : (a b : HandlerKind) → same_kind a b ≡ true → a ≡ b
kind_is kinds.Dirty kinds.Dirty e = refl
kind_is kinds.Draft kinds.Draft e = refl
kind_is kinds.Always kinds.Always e = refl
kind_is kinds.Dirty kinds.Draft e = cc
kind_is kinds.Dirty kinds.Always e = cc
kind_is kinds.Draft kinds.Dirty e = cc
kind_is kinds.Draft kinds.Always e = cc
kind_is kinds.Always kinds.Dirty e = cc
kind_is kinds.Always kinds.Draft e = cc

some_kind_is : (a b : Option HandlerKind) → same_option same_kind a b ≡ true → a ≡ b
some_kind_is None None e = refl
some_kind_is (Some a) (Some b) e = ap (λ (k : HandlerKind). Some k) (kind_is a b e)
some_kind_is None (Some b) e = cc
some_kind_is (Some a) None e = cc

verdict_itself : (verdict : Verdict) → same_verdict verdict verdict ≡ true
verdict_itself verdicts.Leave = refl
verdict_itself verdicts.Prompt = refl

answer_is : (slots : List HandlerKind) (order : Order) (task : Task) (kind : Option HandlerKind) → has_kind_of slots task kind ≡ true → is_answer_of slots order task (outcome_of_task task order.dirty kind) ≡ true
answer_is slots order (tasks.Ask slot cause) kind its =
    let same : kind ≡ slice_get slots slot = some_kind_is kind (slice_get slots slot) its in
    rw (sym same) (verdict_itself (verdict_of kind (record { dirty = order.dirty; cause = cause })))
answer_is slots order (tasks.Populate nav state address initial) kind its = refl
answer_is slots order (tasks.Activate entry epoch length index memo address) kind its = refl
answer_is slots order (tasks.Update length index) kind its = refl
answer_is slots order tasks.Freeze kind its = refl
answer_is slots order tasks.Discard kind its = refl
answer_is slots order (tasks.DoFragment req mode address) kind its = refl

acted_plain : (slots : List HandlerKind) (p : Point) (by : _) (at : ℕ) (proc : ProcId) (poke : Poke) (o : Option View) → is_answered_row slots p (record { event = at; actor = by; row = acted_row proc poke o }) ≡ true
acted_plain slots p by at proc poke None = refl
acted_plain slots p by at proc poke (Some view) = by_run view.running
  where
    by_made : (made : Option What) → is_answered_row slots p (record { event = at; actor = by; row = act_row proc view poke.req made }) ≡ true
    by_made (Some what) = refl
    by_made None = refl

    by_run : (b : Bool) → is_answered_row slots p (record { event = at; actor = by; row = if b then act_row proc view poke.req (made_by view poke.action) else rows.Refused poke.req denials.NoDocument }) ≡ true
    by_run true = by_made (made_by view poke.action)
    by_run false = refl

own_answered : (slots : List HandlerKind) (s : Seen) (event : Event) (reply : Reply) (own : RowKind) (out : List RowKind) (p : Point) → p.now ≡ s → idle_reply slots s event ≡ None → Begins s event reply own out → is_answered_row slots p (row_in s event own) ≡ true
own_answered slots s (events.Load nav mode address) reply own out p at due begins = rw begins.1 refl
own_answered slots s (events.Go delta) reply own out p at due begins = rw begins.1 refl
own_answered slots s (events.Poke nav action) reply own out p at due begins = rw begins.1 refl
own_answered slots s (events.Answer req stay) reply own out p at due begins = rw begins.1 refl
own_answered slots s events.Evict reply own out p at due begins =
    some_and _ (longest_kept s) _ begins.1 (λ d there own_is. rw own_is refl)
own_answered slots s (events.Act proc) reply own out p at due begins =
    some_and _ (slice_get (desk_of s proc).input 0) _ begins.2 (λ poke there own_is. rw own_is (acted_plain slots p (actors.Proc proc) s.events proc poke (view_in s poke.doc)))
own_answered slots s (events.Begin proc) reply own out p at due begins =
    some_and _ (slice_get (desk_of s proc).mail 0) _ begins.1 (λ job there is. rw is.1 refl)
own_answered slots s (events.Finish proc done) reply own out p at due begins =
    some_and _ (desk_of s proc).in_hand _ begins.1 by_order
  where
    by_order : (order : Order) → (desk_of s proc).in_hand ≡ Some order → (done ≡ done_of order done.kind) × (own ≡ rows.Finished proc order.job.nr done.outcome) × (out ≡ rows_of_made proc (made_at_end (view_in s order.job.doc) order.job.task)) → is_answered_row slots p (row_in s (events.Finish proc done) own) ≡ true
    by_order order hand is =
        let its : has_kind_of slots order.job.task done.kind ≡ true = kind_due order hand due in
        let end : done.outcome ≡ outcome_of_task order.job.task order.dirty done.kind = ap (λ (d : Done). d.outcome) is.0 in
        rw (is.1, at, hand, end) (answer_is slots order order.job.task done.kind its)
      where
        kind_due : (order : Order) → (desk_of s proc).in_hand ≡ Some order → idle_reply slots s (events.Finish proc done) ≡ None → has_kind_of slots order.job.task done.kind ≡ true
        kind_due order hand due_ = by_test (is_work_on slots done order) refl (rw hand at due_)
          where
            by_test : (b : Bool) → is_work_on slots done order ≡ b → (let o : Option Reply = if b then None else Some replies.Stale in o) ≡ None → has_kind_of slots order.job.task done.kind ≡ true
            by_test true e none = (and_parts _ _ e).1
            by_test false e none = cc
own_answered slots s (events.Deliver proc) reply own out p at due begins = rw begins.1 refl

-- ---- the event

have_its : (s : Seen) (event : Event) (kinds : List RowKind) → have_number s.events (map (row_in s event) kinds) ≡ true
have_its s event [] = refl
have_its s event (kind ∷ kinds) = both (nat_eq_refl s.events) (have_its s event kinds)

pub answers_on : (slots : List HandlerKind) (event : Event) (reply : Reply) (old new : List LogRow) → 0 < (seen_of old).events → IsLegal new → idle_reply slots (seen_of old) event ≡ None → HasHappened event reply old new → AnswersBy slots old → AnswersBy slots new
unfolding is_formed
answers_on slots event reply old new some legal due happened before =
    let s : Seen = seen_of old in
    let first : LogRow = row_in s event happened.own in
    let later : List LogRow = map (row_in s event) happened.out in
    let number : have_number s.events (first ∷ later) ≡ true = have_its s event (happened.own ∷ happened.out) in
    let formed : each_row is_formed_row s (first ∷ later) ≡ true = last_event _ old first later some number (subst (λ (l : List LogRow). AtEachEvent is_formed l) happened.log legal.formed) in
    let rest : each_point is_formed_row s (after s first) (first ∷ []) later ≡ true = (and_parts _ _ formed).1 in
    let own : is_answered_row slots (record { start = s; now = s; done = []; later = later }) first ≡ true = own_answered slots s event reply happened.own happened.out (record { start = s; now = s; done = []; later = later }) refl due happened.begins in
    subst (λ (l : List LogRow). AnswersBy slots l) (sym happened.log) (at_each_event_more (each_row (is_answered_row slots)) old first later some number before (both own (rest_plain slots s (after s first) first [] later rest)))
