-- What waits, and what is held back, as a request is accepted: both as before, and nothing more is due.
use Rattle.tab_stands.proofs.Applied.{none_applied}
use Rattle.seen_facts.specs.Asked.Asking.{IsThere}
use Rattle.tab_facts.specs.FrameTab.Asking.{NoneHeld}
use Rattle.seen_facts.specs.Hang.Members.{Has}
use Rattle.log_model.specs.ActsAtOnce.{ends_stepped, has_reason_to_run, is_ready_load}
use Rattle.log_model.specs.Equal.{implies}
use Rattle.log_model.specs.Once.{delta_of}
use Rattle.log_model.specs.Places.{aim_of, all_stand, all_stand_in, passed_traversal}
use Rattle.log_model.specs.Seen.{Asked, Seen, request_in}
use Rattle.log_model.specs.declared.request.Request.{Request}
use Rattle.move_queue.specs.Queue.{Queue}
use Rattle.move_queue.specs.declared.queue_step.QueueStep.{QueueStep}
use Rattle.move_queue.specs.declared.queue_step.QueueStep.TheVariants.{Ready, Reload, Traverse}
use Rattle.seen_laws.specs.InEvent.{InEvent, now_of}
use Rattle.std.proofs.Common.{Bool, List, None, Option, Some, [], ap, false, filter, inl, inr, length, not, refl, subst, sym, true, ℕ, ℤ, ◌+◌, ◌∙◌, ◌∷◌, ◌≡◌, ◌⊎◌}
use Rattle.std.proofs.lemmas.Bool.{and_parts}
use Rattle.std.specs.Prelude.{is_some, option_and_then}
use Rattle.tab_settles.specs.PassedOn.{AreStepsOf, AwaitTurns, HasQueue, HaveJoined, delta_in, is_traverse}
use Rattle.tab_doors.specs.declared.tables.Tables.{Tables}
use Rattle.tab_facts.specs.TabEvents.Between.{IsBetweenChecks}
use Rattle.tab_ids.specs.declared.DocId.{DocId}
use Rattle.tab_ids.specs.declared.ReqId.{ReqId}
use Rattle.tab_ids.specs.declared.StateId.{StateId}
use Rattle.tab_settles.proofs.PassedOn.{passed_is, running_is}
use Rattle.tab_settles.specs.Settling.{IsQueueing, IsWaiting, NoneRunsWhileHeld}
use Rattle.tab_stands.proofs.Accepting.{new, now, old_or_new, parked_now, stays, went}
use Rattle.tab_stands.specs.Standing.{InCheck, IsOwnRead, StandsFor, seen_start}
use Rattle.log_model.specs.declared.row_kind.Actor.TheVariants as actors
use Rattle.log_model.specs.declared.row_kind.RowKind.TheVariants as rows

-- ---- a traversal that runs

-- between two events, where one runs, not all stand where it leads to
pub off_where_runs : (keep : ℕ) (run : Option ReqId) (s : Seen) {loads : List ReqId} {waits : Bool} → IsBetweenChecks keep run loads waits s → NoneRunsWhileHeld waits run → (req : ReqId) → run ≡ Some req → all_stand s (aim_of s) ≡ false
unfolding ends_stepped
off_where_runs keep run s {loads} {waits} between alone req is = off (all_stand s (aim_of s)) (some ∙ reason)
  where
    reason : has_reason_to_run s ≡ true
    reason = (and_parts (has_reason_to_run s) _ (between.stepped (free waits refl))).0
      where
        free : (b : Bool) → waits ≡ b → waits ≡ false
        free false same = same
        free true same = absurd (let never : None ≡ Some req = sym (alone same) ∙ is in cc)

    ran : IsThere s req
    ran = between.tab.asked.runs req is

    passed : passed_traversal s ≡ Some ran.q
    passed =
        passed_is s run between.tab.asked
        ∙ running_is s run between.tab.asked
        ∙ ap (λ (o : Option ReqId). option_and_then (λ (r : ReqId). request_in s.requests r) o) is
        ∙ ran.found

    some : not (all_stand s (aim_of s)) ≡ has_reason_to_run s
    some = sym (ap (λ (o : Option Asked). implies (is_some o) (not (all_stand s (aim_of s)))) passed)

    off : (b : Bool) → not b ≡ true → b ≡ false
    off false h = refl
    off true h = absurd cc

-- ---- the steps that wait

-- where requests that were there are there still, the steps are those of the requests still
module _ (old asked : List Asked) (stay : (req : ReqId) (q : Asked) → request_in old req ≡ Some q → request_in asked req ≡ Some q) where
  delta_stays : (req : ReqId) (delta : ℤ) → delta_in old req ≡ Some delta → delta_in asked req ≡ Some delta
  delta_stays req delta its = by_found (request_in old req) refl its
    where
      by_found : (o : Option Asked) → request_in old req ≡ o → option_and_then (λ (q : Asked). delta_of q.what) o ≡ Some delta → delta_in asked req ≡ Some delta
      by_found None at none = absurd cc
      by_found (Some q) at some =
          ap (λ (o : Option Asked). option_and_then (λ (x : Asked). delta_of x.what) o) (stay req q at) ∙ some

  pub steps_stay : (joined : List ReqId) (steps : List QueueStep) → AreStepsOf old joined steps → AreStepsOf asked joined steps
  steps_stay [] [] are = tt
  steps_stay [] (step ∷ steps) are = absurd are
  steps_stay (req ∷ joined) [] are = absurd are
  steps_stay (req ∷ joined) (Traverse nr delta ∷ steps) are = ((are.0.0, delta_stays req delta are.0.1), steps_stay joined steps are.1)
  steps_stay (req ∷ joined) (Reload nr nav ∷ steps) are = absurd are.0
  steps_stay (req ∷ joined) (Ready nr nav ∷ steps) are = absurd are.0

-- ---- the row

module _ (e : InEvent) (req : ReqId) (doc : Option DocId) (what : Request) (by_user : e.actor ≡ actors.Ui) (own : e.own ≡ rows.Accepted req doc what) (nr : req.0 ≡ length (seen_start e).requests + 1) (aside : IsOwnRead e) (t : Tables) (queue : Queue) (blame : List (StateId × ReqId)) {check : InCheck} (stands : StandsFor check (seen_start e) t queue blame) where
  abbrev s : Seen
  s = seen_start e

  abbrev n : Seen
  n = went e req doc what by_user own nr aside

  -- each ready load was so
  pub await_still : AwaitTurns n queue.waiting
  await_still r q nav at ready its = by_old (old_or_new e req doc what by_user own nr aside r q at)
    where
      by_old : (request_in s.requests r ≡ Some q) ⊎ ((r ≡ req) × (q ≡ new e req doc what by_user own nr aside)) → Has queue.waiting (Ready r nav)
      by_old (inl old) = stands.queue.ready r q nav old ready its
      by_old (inr it) =
          let never : false ≡ true = ap (λ (x : Asked). is_ready_load n x) (sym it.1) ∙ ready in absurd cc

  -- where none has joined, the steps that wait are those of who joined
  joined_still : n.joined ≡ s.joined → (run : Option ReqId) (steps : List QueueStep) → HaveJoined s run steps → HaveJoined n run steps
  joined_still same None steps have =
      subst (λ (l : List ReqId). AreStepsOf n.requests l steps) (sym same) (steps_stay s.requests n.requests (stays e req doc what by_user own nr aside) s.joined steps have)
  joined_still same (Some run) steps have =
      record { rest = have.rest; joined = same ∙ have.joined; steps_ = steps_stay s.requests n.requests (stays e req doc what by_user own nr aside) have.rest steps have.steps_ }

  pub queued_still : n.joined ≡ s.joined → HasQueue n t.running queue.waiting
  queued_still same =
      record { traversals = joined_still same t.running (filter is_traverse queue.waiting) stands.queue.traversals; ready = await_still; steps = stands.queue.steps }

  held_now : NoneHeld t.running (now_of e [])
  held_now = subst (λ (x : Seen). NoneHeld t.running x) (sym (now e req doc what by_user own nr aside)) stands.between.held

  -- where a report is held back, a traversal runs, and not all stand
  stands_not : (aim_of (now_of e []) ≡ aim_of s) → ((now_of e []).parked ≡ [] → ⊥) → all_stand (now_of e []) (aim_of (now_of e [])) ≡ true → ⊥
  stands_not aim some all = by_run t.running refl
    where
      same : all_stand (now_of e []) (aim_of (now_of e [])) ≡ all_stand s (aim_of s)
      same =
          ap (λ (k : ℕ). all_stand (now_of e []) k) aim
          ∙ ap (λ (x : Seen). all_stand_in x.history.rows x.places (aim_of s)) (now e req doc what by_user own nr aside)

      by_run : (o : Option ReqId) → t.running ≡ o → ⊥
      by_run None is = some (held_now is)
      by_run (Some run) is =
          let off : all_stand s (aim_of s) ≡ false = off_where_runs t.kept.keep t.running s stands.between stands.alone run is in
          let never : true ≡ false = sym all ∙ same ∙ off in
          cc

  -- all that is asked of what waits
  pub queueing_now : e.before ≡ [] → (ids : List ReqId) (left : Queue) → aim_of (now_of e []) ≡ aim_of s → IsWaiting e [] → HasQueue (now_of e []) t.running left.waiting → left.parked ≡ queue.parked → IsQueueing (record { event = e; loads = ids; hand = [] }) [] t left
  queueing_now uncut ids left aim waits queued parked =
      record {
        waits = waits;
        queued = queued;
        parked = parked ∙ parked_now e req doc what by_user own nr aside t queue blame stands;
        held = held_now;
        over = λ has. absurd (none_applied e uncut has);
        releasing = λ some all. absurd (stands_not aim some all);
      }
