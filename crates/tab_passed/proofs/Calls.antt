-- A pass may follow by what the tables and the queue came to.
use Rattle.move_queue.specs.Queue.{Queue}
use Rattle.move_queue.specs.declared.queue_step.QueueStep.{QueueStep}
use Rattle.seen_laws.specs.InEvent.{InEvent}
use Rattle.std.proofs.Common.{List, ap, drop, subst, sym, ℤ, ◌∙◌, ◌≡◌}
use Rattle.tab_doors.specs.declared.tables.Tables.{Tables}
use Rattle.tab_ids.specs.declared.ReqId.{ReqId}
use Rattle.tab_ids.specs.declared.StateId.{StateId}
use Rattle.tab_passed.specs.Passing.{IsInFront, IsPastCheck}

-- a queue without its first step is the one without the traversal's
pub past_then : (e : InEvent) (loads : List ReqId) (was u : Tables) (queue left : Queue) (blame : List (StateId × ReqId)) (req : ReqId) (delta : ℤ) (rest : List QueueStep) → IsInFront queue req delta rest → u ≡ was → left ≡ record queue { waiting = drop 1 queue.waiting } → IsPastCheck e loads was (record queue { waiting = rest }) blame req → IsPastCheck e loads u left blame req
past_then e loads was u queue left blame req delta rest front tables steps past =
    subst (λ (x : Tables). IsPastCheck e loads x left blame req) (sym tables)
    (subst (λ (x : Queue). IsPastCheck e loads was x blame req) (sym (steps ∙ ap (λ (l : List QueueStep). let x : Queue = record queue { waiting = drop 1 l } in x) front)) past)
