-- When no turn of the queue is due.
-- HTML Standard, "session history traversal queue" and "apply the history step".
use Rattle.log_model.specs.Places.{aim_of, all_stand}
use Rattle.log_model.specs.Seen.{Seen}
use Rattle.move_queue.specs.declared.queue_step.QueueStep.{QueueStep}
use Rattle.std.specs.Prelude.{List, None, Option, Some, [], false, ◌≡◌, ◌⊎◌}
use Rattle.tab_ids.specs.declared.ReqId.{ReqId}

-- the traversal that runs doesn't end yet, since not all stand where it leads to; or, where none runs, not all stand at the current step, or no step waits
abbrev pub IsNoneDue : Seen → Option ReqId → List QueueStep → Type 0
IsNoneDue s None waiting = (all_stand s s.history.current ≡ false) ⊎ (waiting ≡ [])
IsNoneDue s (Some run) waiting = all_stand s (aim_of s) ≡ false
