-- A traversal passes its check in the midst of an event, and goes on.
use Rattle.log_model.specs.Seen.{Asked}
use Rattle.log_model.specs.declared.job.Why.{Why}
use Rattle.log_model.specs.declared.made.Made.{Made}
use Rattle.move_queue.specs.Queue.{Queue}
use Rattle.move_queue.specs.declared.queue_step.QueueStep.{QueueStep}
use Rattle.std.proofs.Common.{List, [], ap, drop, subst, sym, ℤ, ◌∙◌, ◌≡◌}
use Rattle.tab_doors.specs.declared.tables.Tables.{Tables}
use Rattle.tab_ids.specs.declared.ReqId.{ReqId}
use Rattle.tab_ids.specs.declared.StateId.{StateId}
use Rattle.tab_ids.specs.declared.Step.{Step}
use Rattle.tab_midway.proofs.Ready.{gone}
use Rattle.tab_midway.specs.Midway.{HasGoneOn, IsCutFor, IsToGoOn}
use Rattle.tab_passed.specs.Passing.{IsInFront, passed_tables}
use Rattle.tab_settles.specs.PassedOn.{InPass}
use Rattle.unload_check.specs.Checks.{ended}

module _ (p : InPass) (t : Tables) (queue : Queue) (blame : List (StateId × ReqId)) (cause : Why) (req : ReqId) (q : Asked) (goal : Step) (delta : ℤ) (rest : List QueueStep) where
  -- the same pass, with this at hand
  abbrev with_hand : List Made → InPass
  with_hand hand = record { event = p.event; loads = p.loads; hand = hand }

  -- from where the event was cut: a pass may follow for it, by the tables and the queue as it leaves them
  pub goes_on : IsCutFor p t queue blame cause req → IsToGoOn p.event t.checks req q goal → IsInFront queue req delta rest → HasGoneOn p (passed_tables t req goal (ended req t.checks)) (record queue { waiting = rest }) blame req
  goes_on cut_for to_go front =
      subst (λ (hand : List Made). HasGoneOn (with_hand hand) (passed_tables t req goal (ended req t.checks)) (record queue { waiting = rest }) blame req) (sym none)
      (gone p.event p.loads t queue blame cause req (subst (λ (hand : List Made). IsCutFor (with_hand hand) t queue blame cause req) none cut_for) q goal to_go delta rest front)
    where
      none : p.hand ≡ []
      none = cut_for.ready.empty

-- so it is by what the tables and the queue came to, where the first step was taken off
pub gone_then : (p : InPass) (was u : Tables) (queue left : Queue) (blame : List (StateId × ReqId)) (req : ReqId) (delta : ℤ) (rest : List QueueStep) → IsInFront queue req delta rest → u ≡ was → left ≡ record queue { waiting = drop 1 queue.waiting } → HasGoneOn p was (record queue { waiting = rest }) blame req → HasGoneOn p u left blame req
gone_then p was u queue left blame req delta rest front tables steps gone_on =
    subst (λ (x : Tables). HasGoneOn p x left blame req) (sym tables)
    (subst (λ (x : Queue). HasGoneOn p was x blame req) (sym (steps ∙ ap (λ (l : List QueueStep). let x : Queue = record queue { waiting = drop 1 l } in x) front)) gone_on)
