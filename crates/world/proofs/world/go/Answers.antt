use Rattle.std.proofs.Common.{IfOk, sym, subst}
use Rattle.world.specs.declared.event.Event.{Event}
use Rattle.world.specs.Turns.{HasGone}
use Rattle.world.proofs.StepLaws.{act_due, answer_never, begin_due, deliver_due, evict_is_due, finish_due, worked_due}
use Rattle.world.proofs.world.go.Goals as goal

pub unreachable-requires : goal.unreachable-requires
unreachable-requires c = absurd (answer_never _ _ _ c.requires.«open» c.requires.due.0 _ c.in-Answer.stay (rw c.in-Answer.is at c.requires.due.1))

pub evict-requires-clause-due : goal.evict-requires-clause-due
evict-requires-clause-due c = evict_is_due _ _ _ c.requires.«open» c.requires.due.0 (rw c.in-Evict.is at c.requires.due.1)

pub act-requires-clause-due : goal.act-requires-clause-due
act-requires-clause-due c = act_due _ _ _ c.requires.«open» c.requires.due.0 c.in-Act.proc (rw c.in-Act.is at c.requires.due.1)

pub begin-requires-clause-free : goal.begin-requires-clause-free
begin-requires-clause-free c = (begin_due _ _ _ c.requires.«open» c.requires.due.0 c.in-Begin.proc (rw c.in-Begin.is at c.requires.due.1)).0

pub begin-requires-clause-due : goal.begin-requires-clause-due
begin-requires-clause-due c = (begin_due _ _ _ c.requires.«open» c.requires.due.0 c.in-Begin.proc (rw c.in-Begin.is at c.requires.due.1)).1

pub finish-requires-clause-due : goal.finish-requires-clause-due
finish-requires-clause-due c =
    rw c.outcome-outcome.ensures.outcome (worked_due _ _ _ c.requires.«open» c.in-Finish.proc c.in-Finish.done (finish_due _ _ _ c.requires.«open» c.requires.due.0 c.in-Finish.proc c.in-Finish.done (rw c.in-Finish.is at c.requires.due.1) c.outcome-outcome.ensures.worked))

pub deliver-requires-clause-due : goal.deliver-requires-clause-due
deliver-requires-clause-due c = deliver_due _ _ _ c.requires.«open» c.requires.due.0 c.in-Deliver.proc (rw c.in-Deliver.is at c.requires.due.1)

pub returns-in-Finish-clause-gone : goal.returns-in-Finish-clause-gone
returns-in-Finish-clause-gone c =
    let its = finish_due _ _ _ c.requires.«open» c.requires.due.0 c.in-Finish.proc c.in-Finish.done (rw c.in-Finish.is at c.requires.due.1) c.outcome-outcome.ensures.worked in
    subst (λ (event : Event). IfOk c.finish.result (λ reply. HasGone c.args.header.now event reply c.args.log.now c.finish.new.log c.finish.new.state)) (sym c.in-Finish.is) (c.finish.ensures.gone c.in-Finish.done its (sym c.outcome-outcome.ensures.outcome))
