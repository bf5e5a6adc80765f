-- The session history traversal queue of a traversable, and the reports of documents that wait beside it.
-- HTML Standard, "Centralized modifications of session history" (the session history traversal queue, synchronous navigation steps). Parking is this project's own.
use Rattle.std.specs.Prelude.{Bool, ◌==◌, List, [], ◌∷◌, if◌then◌else◌}
use Rattle.tab_ids.specs.declared.ReqId.{ReqId}
use Rattle.log_model.specs.declared.made.Made.{Made}
use Rattle.move_queue.specs.declared.queue_step.QueueStep.{QueueStep}
use Rattle.move_queue.specs.declared.queue_step.QueueStep.TheVariants.{Traverse, Reload, Ready}

-- the steps that wait, and the reports that are parked; both first in, first out
pub record Queue : Type 0 where
  pub waiting : List QueueStep
  pub parked : List Made

-- the request that a step serves
abbrev pub request_of : QueueStep → ReqId
request_of (Traverse req delta) = req
request_of (Reload req nav) = req
request_of (Ready req nav) = req

-- the step serves the request
abbrev pub serves : ReqId → QueueStep → Bool
serves req step = (request_of step).0 == req.0

-- a list without the first element that passes a test, the others in their order
abbrev pub without_first : {X : Type 0} → (X → Bool) → List X → List X
without_first test [] = []
without_first test (x ∷ xs) = if test x then xs else x ∷ without_first test xs
