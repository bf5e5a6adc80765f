use Rattle.std.proofs.Common.{◌≡◌, ◌∙◌, List, Result, Ok, Some, sym, ap}
use Rattle.address.specs.declared.error.OutOfMemory.{OutOfMemory}
use Rattle.log_model.specs.declared.handler.HandlerKind.{HandlerKind}
use Rattle.log_model.specs.declared.job.Order.{Order}
use Rattle.log_model.specs.Logs.{in_hand_of}
use Rattle.proc_work.specs.Work.{Done, done_of, kind_asked}
use Rattle.proc_work.proofs.SameLaws.{asked_itself}
use Rattle.scenario_play.specs.Courses.{IsOfHand}
use Rattle.scenario_play.proofs.StepMoves.{finish_moves}
use Rattle.scenario_play.proofs.StepPlays.{finish_is_due}
use Rattle.world.specs.declared.event.Event.TheVariants as events
use Rattle.world.specs.Kept.{WorldState}
use Rattle.scenario_play.proofs.round.finish.Goals as goal

pub returns-in-Err-clause-plays : goal.returns-in-Err-clause-plays
returns-in-Err-clause-plays g c = finish_is_due c.args.world.now.log c.args.proc c.args.order c.requires.hand

-- one result is Ok in one way
ok_is : {r : Result Done OutOfMemory} {a b : Done} → r ≡ Ok a → r ≡ Ok b → a ≡ b
ok_is one other = cc

-- what was worked on is the order in hand, with the handler of its slot
of_hand : (world : WorldState) (proc : _) (order : Order) (kinds : List HandlerKind) (done : Done) → in_hand_of world.log proc ≡ Some order → world.kinds ≡ kinds → done ≡ done_of order (kind_asked kinds order.job.task) → IsOfHand world.kinds world.log (events.Finish proc done)
of_hand world proc order kinds done hand same is =
    (hand ∙ ap (λ (d : Done). Some d.order) (sym is), rw (same, is) (asked_itself kinds order.job.task))

pub step-requires-clause-hand : goal.step-requires-clause-hand
step-requires-clause-hand g c =
    of_hand c.args.world.now c.args.proc c.args.order _ _ c.requires.hand c.requires.kinds (ok_is c.in-Ok.is c.work.ensures)

pub returns-in-Ok-step-clause-moves : goal.returns-in-Ok-step-clause-moves
returns-in-Ok-step-clause-moves g c =
    finish_moves c.args.world.now c.step.new.world c.args.proc _ _ c.requires.open (of_hand c.args.world.now c.args.proc c.args.order _ _ c.requires.hand c.requires.kinds (ok_is c.in-Ok.is c.work.ensures)) c.in-Ok-step.ensures.steps
