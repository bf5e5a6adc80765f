-- A traversal begins in a log as another one began, where none ran: orders may be for it, and the queue goes on without its step.
use Rattle.log_model.specs.Seen.{Asked, Seen}
use Rattle.log_model.specs.declared.job.Why.TheVariants as whys
use Rattle.move_queue.specs.declared.queue_step.QueueStep.{QueueStep}
use Rattle.move_queue.specs.declared.queue_step.QueueStep.TheVariants.{Traverse}
use Rattle.std.proofs.Common.{List, None, Some, [], filter, inr, true, ℤ, ◌∷◌, ◌≡◌}
use Rattle.tab_begins.proofs.Begins.{show_causes}
use Rattle.tab_begins.proofs.Queues.{ahead, await_on, await_traversed, deltas_same, steps_on}
use Rattle.tab_begins.specs.Queueing.{HasQueue, IsAheadOf, is_traverse}
use Rattle.tab_facts.proofs.TabWhole.Beginning.{IsToGo}
use Rattle.tab_facts.specs.TabWhole.Tab.{IsTab}
use Rattle.tab_ids.specs.declared.ReqId.{ReqId}
use Rattle.tab_one_pass.specs.Passing.{MayCause}
use Rattle.tab_passed.proofs.Begun.{looks_were, wishes}
use Rattle.tab_turns.specs.Beginning.{IsFirst}
use Rattle.unasked_tab.proofs.Begun.{with_begun}

module _ (s : Seen) (req : ReqId) (p : Asked) (is : IsToGo s req p) (b : Asked) (starts : b.is_started ≡ true) where
  abbrev n : Seen
  n = with_begun s req b

  -- orders may be for it
  pub may_then : (loads : List ReqId) → IsTab (Some req) loads [] (with_begun s req b) → MayCause (with_begun s req b) (whys.Req req)
  may_then loads tab = show_causes n (Some req) tab.asked whys.Start (λ r never. absurd cc)

  -- ---- the queue

  module _ (delta : ℤ) (rest : List QueueStep) (queue : HasQueue s None (Traverse req delta ∷ rest)) where
    front : IsFirst s req delta × IsAheadOf s req (filter is_traverse rest)
    front = ahead s req delta (filter is_traverse rest) queue.traversals

    -- the others wait on behind it
    pub queue_then : HasQueue (with_begun s req b) (Some req) rest
    queue_then =
        record {
          traversals = record {
            rest = front.1.rest;
            joined = front.1.joined;
            steps_ = steps_on s.requests n.requests front.1.rest (filter is_traverse rest) (deltas_same s n (wishes s req p is b starts)) front.1.steps_;
          };
          ready = await_on s n (λ state some. some) (looks_were s req p is b starts) rest (await_traversed s req delta rest queue.ready);
          steps = λ step has. queue.steps step (inr has);
        }

-- the traversal whose step waits first is in the queue
pub in_queue : (s : Seen) (req : ReqId) (delta : ℤ) (rest : List QueueStep) → HasQueue s None (Traverse req delta ∷ rest) → IsFirst s req delta
in_queue s req delta rest queue = (ahead s req delta (filter is_traverse rest) queue.traversals).0
