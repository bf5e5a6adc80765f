-- The outcome with which a process finishes an order.
-- This project's own.
use Rattle.std.specs.Prelude.{◌≡◌, Option}
use Rattle.log_model.specs.declared.handler.HandlerKind.{HandlerKind}
use Rattle.log_model.specs.declared.job.Order.{Order}
use Rattle.log_model.specs.declared.outcome.Outcome.{Outcome}
use Rattle.proc_work.specs.Work.{done_of}

-- it is that of the order, worked on with a handler of some kind, or with none
pub record IsWorkedOutcome (order : Order) (outcome : Outcome) : Type 0 where
  pub kind : Option HandlerKind
  pub is : outcome ≡ (done_of order kind).outcome
