-- How each step moves a world on.
use Rattle.std.proofs.Common.{◌≡◌, ℕ, ◌+◌, ◌<◌, ◌≤◌, Bool, true, false, not, ◌&&◌, ◌||◌, ◌==◌, List, length, Option, Some, None, Ok, refl, sym, ap, ◌∙◌, subst, arith, length-append, eq-or-lt_of_le, ◌⊎◌, inl, inr}
use Rattle.std.specs.Prelude.{is_none, is_some, if◌then◌else◌, Result, Err, OnOk}
use Rattle.std.proofs.lemmas.Bool.{eq-eqb}
use Rattle.tab_ids.specs.declared.ProcId.{ProcId}
use Rattle.log_model.specs.declared.job.Order.{Order}
use Rattle.log_model.specs.declared.row_kind.LogRow.{LogRow}
use Rattle.log_model.specs.Logs.{seen_of, in_hand_of, input_of, mail_of, reports_of, is_idle}
use Rattle.log_model.specs.Seen.{desk_of}
use Rattle.proc_work.specs.Work as worked
use Rattle.world.specs.declared.event.Event.{Event}
use Rattle.world.specs.declared.event.Event.TheVariants as events
use Rattle.world.specs.declared.event.Reply.{Reply}
use Rattle.world.specs.declared.event.Reply.TheVariants as replies
use Rattle.world.specs.Kept.{WorldState}
use Rattle.world.specs.Open.{row_limit}
use Rattle.world.specs.Steps.{begin_idles, idle_reply, StepsAs, Steps}
use Rattle.scenario_play.specs.Courses.{IsOfHand, order_of}
use Rattle.proc_work.proofs.SameLaws.{order_itself}
use Rattle.scenario_play.specs.Moves.{MovesIf, has_poke, has_order, has_mail, has_report}

-- the world is open, and its log is no shorter
pub record MovesOn (old new : WorldState) : Type 0 where
  pub opened : new.closed ≡ false
  pub longer : length old.log ≤ length new.log

-- an event that logs makes the log longer, from below the limit on, and another answer changes nothing
answered_moves : (old new : WorldState) (event : Event) (idle : Option Reply) (reply : Reply) → old.closed ≡ false → StepsAs old event idle (Ok reply) new → MovesIf (is_none idle) old new
answered_moves old new event (Some answer) reply open_ steps =
    rw steps.1 (record { opened = open_; longer = omega arith; more = λ e. cc; below = λ e. cc; idle = λ e. refl })
answered_moves old new event None reply open_ steps =
    let grown : length old.log < length new.log = rw steps.1.log (omega (arith, length-append old.log)) in
    record {
      opened = ap (λ (w : WorldState). w.closed) steps.2 ∙ open_;
      longer = omega (arith, grown);
      more = λ e. grown;
      below = λ e. steps.0;
      idle = λ e. cc;
    }

-- where the answer that logs nothing is told by a test
none_if : (b : Bool) (answer : Reply) → is_none (if b then Some answer else None) ≡ not b
none_if true answer = refl
none_if false answer = refl

pub act_moves : (old new : WorldState) (proc : ProcId) (reply : Reply) → old.closed ≡ false → Steps old (events.Act proc) (Ok reply) new → MovesIf (has_poke old.log proc) old new
act_moves old new proc reply open_ steps =
    subst (λ (due : Bool). MovesIf due old new) (none_if (length (input_of old.log proc) == 0) replies.Empty) (answered_moves old new (events.Act proc) _ reply open_ steps)

pub deliver_moves : (old new : WorldState) (proc : ProcId) (reply : Reply) → old.closed ≡ false → Steps old (events.Deliver proc) (Ok reply) new → MovesIf (has_report old.log proc) old new
deliver_moves old new proc reply open_ steps =
    subst (λ (due : Bool). MovesIf due old new) (none_if (length (reports_of old.log proc) == 0) replies.Empty) (answered_moves old new (events.Deliver proc) _ reply open_ steps)

none_begins : (hand : Option Order) (waiting : ℕ) → is_none (begin_idles hand waiting) ≡ (not (is_some hand) && not (waiting == 0))
none_begins (Some order) waiting = refl
none_begins None waiting = none_if (waiting == 0) replies.Empty

-- no order is taken up then
pub idles_without : (hand : Option Order) (waiting : ℕ) (answer : Reply) → begin_idles hand waiting ≡ Some answer → order_of answer ≡ None
idles_without (Some order) waiting answer e = let same : replies.Busy ≡ answer = cc in ap order_of (sym same)
idles_without None waiting answer e = by_test (waiting == 0) e
  where
    by_test : (b : Bool) → (if b then Some replies.Empty else None) ≡ Some answer → order_of answer ≡ None
    by_test true e = let same : replies.Empty ≡ answer = cc in ap order_of (sym same)
    by_test false e = cc

pub begin_moves : (old new : WorldState) (proc : ProcId) (reply : Reply) → old.closed ≡ false → Steps old (events.Begin proc) (Ok reply) new → MovesIf (has_mail old.log proc) old new
begin_moves old new proc reply open_ steps =
    subst (λ (due : Bool). MovesIf due old new) (none_begins (in_hand_of old.log proc) (length (mail_of old.log proc))) (answered_moves old new (events.Begin proc) _ reply open_ steps)

-- where an order was taken up, one waited
pub took_moves : (old mid : WorldState) (proc : ProcId) (order : Order) → Steps old (events.Begin proc) (Ok (replies.Took order)) mid → has_mail old.log proc ≡ true
took_moves old mid proc order steps = by_idle (idle_reply old.kinds (seen_of old.log) (events.Begin proc)) refl steps
  where
    by_idle : (idle : Option Reply) → idle_reply old.kinds (seen_of old.log) (events.Begin proc) ≡ idle → StepsAs old (events.Begin proc) idle (Ok (replies.Took order)) mid → has_mail old.log proc ≡ true
    by_idle (Some answer) e steps =
        let none : order_of answer ≡ None = idles_without (in_hand_of old.log proc) (length (mail_of old.log proc)) answer e in
        let some : order_of answer ≡ Some order = ap order_of (sym steps.0) in
        cc
    by_idle None e steps = sym (none_begins (in_hand_of old.log proc) (length (mail_of old.log proc))) ∙ ap (λ (o : Option Reply). is_none o) e

-- an order that was taken up and finished
pub begun_moves : (old mid new : WorldState) (proc : ProcId) (order : Order) → old.closed ≡ false → Steps old (events.Begin proc) (Ok (replies.Took order)) mid → MovesOn mid new → MovesIf (has_mail old.log proc) old new
begun_moves old mid new proc order open_ steps moves =
    let due = took_moves old mid proc order steps in
    let first = begin_moves old mid proc (replies.Took order) open_ steps in
    let more : length old.log < length mid.log = first.more due in
    record {
      opened = moves.opened;
      longer = omega (arith, moves.longer);
      more = λ e. omega (arith, moves.longer);
      below = λ e. first.below due;
      idle = λ e. absurd (let wrong : true ≡ false = sym due ∙ e in cc);
    }

pub finish_moves : (old new : WorldState) (proc : ProcId) (done : worked.Done) (reply : Reply) → old.closed ≡ false → IsOfHand old.kinds old.log (events.Finish proc done) → Steps old (events.Finish proc done) (Ok reply) new → MovesIf true old new
finish_moves old new proc done reply open_ hand steps =
    let due : idle_reply old.kinds (seen_of old.log) (events.Finish proc done) ≡ None = rw hand.0 (rw (order_itself done.order, hand.1) refl) in
    subst (λ (b : Bool). MovesIf b old new) (ap (λ (o : Option Reply). is_none o) due) (answered_moves old new (events.Finish proc done) _ reply open_ steps)

-- where something waits, and neither a poke nor an order does, a report does
busy_report : (log : List LogRow) (proc : ProcId) → is_idle (desk_of (seen_of log) proc) ≡ false → has_poke log proc ≡ false → has_order log proc ≡ false → has_report log proc ≡ true
busy_report log proc busy poke order =
    by_parts (length (input_of log proc) == 0) (length (mail_of log proc) == 0) (in_hand_of log proc) (length (reports_of log proc) == 0) busy poke order
  where
    by_parts : (a b : Bool) (hand : Option Order) (d : Bool) → (a && b && is_none hand && d) ≡ false → not a ≡ false → (is_some hand || not b) ≡ false → not d ≡ true
    by_parts true true None true busy poke order = cc
    by_parts true true None false busy poke order = refl
    by_parts true true (Some o) d busy poke order = cc
    by_parts true false None d busy poke order = cc
    by_parts true false (Some o) d busy poke order = cc
    by_parts false b hand d busy poke order = cc

-- a log that began below the limit is longer
pub record Grows (old new : WorldState) : Type 0 where
  pub longer : length old.log < length new.log
  pub below : length old.log < row_limit

-- a turn of a process in which something waits
pub turn_moves : (old first second new : WorldState) (proc : ProcId) → is_idle (desk_of (seen_of old.log) proc) ≡ false → MovesIf (has_poke old.log proc) old first → MovesIf (has_order first.log proc) first second → MovesIf (has_report second.log proc) second new → Grows old new
turn_moves old first second new proc busy poke order report = by_poke (has_poke old.log proc) refl
  where
    by_order : first ≡ old → has_poke old.log proc ≡ false → (due : Bool) → has_order first.log proc ≡ due → Grows old new
    by_order same none true e =
        let long : length first.log ≡ length old.log = ap (λ (w : WorldState). length w.log) same in
        record { longer = omega (arith, order.more e, report.longer, long); below = omega (arith, order.below e, long) }
    by_order same none false e =
        let still : second ≡ old = order.idle e ∙ same in
        let due : has_report second.log proc ≡ true = ap (λ (w : WorldState). has_report w.log proc) still ∙ busy_report old.log proc busy none (sym (ap (λ (w : WorldState). has_order w.log proc) same) ∙ e) in
        let long : length second.log ≡ length old.log = ap (λ (w : WorldState). length w.log) still in
        record { longer = omega (arith, report.more due, long); below = omega (arith, report.below due, long) }

    by_poke : (due : Bool) → has_poke old.log proc ≡ due → Grows old new
    by_poke true e = record { longer = omega (arith, poke.more e, order.longer, report.longer); below = poke.below e }
    by_poke false e = by_order (poke.idle e) e (has_order first.log proc) refl

-- a turn moves the world on if something waits in its process
pub turn_stays : (old : WorldState) (proc : ProcId) → old.closed ≡ false → is_idle (desk_of (seen_of old.log) proc) ≡ true → MovesIf (not (is_idle (desk_of (seen_of old.log) proc))) old old
turn_stays old proc open_ idle =
    rw idle (record { opened = open_; longer = omega arith; more = λ e. absurd cc; below = λ e. absurd cc; idle = λ e. refl })

pub turn_goes : (old first second new : WorldState) (proc : ProcId) → is_idle (desk_of (seen_of old.log) proc) ≡ false → MovesIf (has_poke old.log proc) old first → MovesIf (has_order first.log proc) first second → MovesIf (has_report second.log proc) second new → MovesIf (not (is_idle (desk_of (seen_of old.log) proc))) old new
turn_goes old first second new proc busy poke order report =
    let grows = turn_moves old first second new proc busy poke order report in
    rw busy (record { opened = report.opened; longer = omega (arith, grows.longer); more = λ e. grows.longer; below = λ e. grows.below; idle = λ e. absurd cc })

-- a round so far has changed nothing, and the turn of the process is still to come; or its log has grown
pub record HasMoved (home : ProcId) (number : ℕ) (old now : WorldState) : Type 0 where
  pub grown : home.0 < number → Grows old now
  pub either : (now ≡ old) ⊎ Grows old now

pub none_moved : (home : ProcId) (old : WorldState) → 1 ≤ home.0 → HasMoved home 1 old old
none_moved home old some = record { grown = λ e. absurd (let wrong : ⊥ = omega (arith, e, some) in wrong); either = inl refl }

-- one turn more, where something waits in the process as the round begins
pub moved_more : (home : ProcId) (number : ℕ) (old now new : WorldState) → is_idle (desk_of (seen_of old.log) home) ≡ false → HasMoved home number old now → MovesIf (not (is_idle (desk_of (seen_of now.log) (record { 0 = number })))) now new → HasMoved home (number + 1) old new
moved_more home number old now new busy has moves =
    elim has.either [
      | inr grows ↦ grown_on (record { longer = omega (arith, grows.longer, moves.longer); below = grows.below })
      | inl same ↦ by_idle same (is_idle (desk_of (seen_of now.log) (record { 0 = number }))) refl
    ]
  where
    grown_on : Grows old new → HasMoved home (number + 1) old new
    grown_on grows = record { grown = λ e. grows; either = inr grows }

    its_turn : now ≡ old → is_idle (desk_of (seen_of now.log) (record { 0 = number })) ≡ true → home.0 ≡ number → ⊥
    its_turn same idle at =
        let here : is_idle (desk_of (seen_of old.log) home) ≡ true = ap (λ (n : ℕ). is_idle (desk_of (seen_of old.log) (record { 0 = n }))) at ∙ (ap (λ (w : WorldState). is_idle (desk_of (seen_of w.log) (record { 0 = number }))) (sym same) ∙ idle) in
        let wrong : true ≡ false = sym here ∙ busy in absurd cc

    by_idle : now ≡ old → (idle : Bool) → is_idle (desk_of (seen_of now.log) (record { 0 = number })) ≡ idle → HasMoved home (number + 1) old new
    by_idle same false e =
        let due : not (is_idle (desk_of (seen_of now.log) (record { 0 = number }))) ≡ true = ap not e in
        let long : length now.log ≡ length old.log = ap (λ (w : WorldState). length w.log) same in
        grown_on (record { longer = omega (arith, moves.more due, long); below = omega (arith, moves.below due, long) })
    by_idle same true e =
        let still : new ≡ old = moves.idle (ap not e) ∙ same in
        record {
          grown = λ past. elim (eq-or-lt_of_le (omega (arith, past))) [
            | inl at ↦ absurd (its_turn same e at)
            | inr before ↦ (let grows = has.grown before in record { longer = omega (arith, grows.longer, moves.longer); below = grows.below })
          ];
          either = inl still;
        }

-- what follows from success follows of a result
pub on_ok : {T E : Type 0} (r : Result T E) (P Q : Type 0) → (P → Q) → OnOk r P → OnOk r Q
on_ok (Ok x) P Q f p = f p
on_ok (Err e) P Q f p = p
