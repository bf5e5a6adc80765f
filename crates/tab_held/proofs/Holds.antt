-- The traversal that holds the queue is under way between the two parts of a pass: it is in its check, so it has begun, and its step waits, so it is open.
use Rattle.log_model.specs.Seen.{Asked, Seen, request_of}
use Rattle.log_model.specs.declared.job.Why.{Why}
use Rattle.log_model.specs.declared.row_kind.RowKind.{RowKind}
use Rattle.move_queue.specs.Queue.{Queue}
use Rattle.move_queue.specs.declared.queue_step.QueueStep.TheVariants.{Traverse}
use Rattle.move_queue.specs.declared.queue_step.QueueStep.{QueueStep}
use Rattle.seen_laws.specs.InEvent.{InEvent, log_of, now_of}
use Rattle.seen_laws.specs.Unasked.{unasked_request, unbegun, without_asks}
use Rattle.std.proofs.Common.{List, None, Option, Some, [], ap, cond, false, refl, subst, sym, true, ◌∙◌, ◌∷◌, ◌≡◌}
use Rattle.std.specs.List.{filter}
use Rattle.std.specs.Prelude.{option_map}
use Rattle.tab_begins.proofs.Queues.{ahead}
use Rattle.tab_begins.specs.Queueing.{HasQueue, is_traverse}
use Rattle.tab_doors.specs.declared.tables.Tables.{Tables}
use Rattle.tab_held.proofs.Over.{one_is}
use Rattle.tab_held.specs.Holding.{HoldsQueue}
use Rattle.tab_ids.specs.declared.ReqId.{ReqId}
use Rattle.tab_ids.specs.declared.StateId.{StateId}
use Rattle.tab_prompts.specs.Asking.{AreUnderWay, IsUnderWay}
use Rattle.tab_prompts.specs.Prompts.{waiting_among}
use Rattle.tab_settles.specs.Held.{IsClearedIn}
use Rattle.tab_settles.specs.PassedOn.{InPass}
use Rattle.tab_turns.proofs.Firsts.{IsWaitingFirst, first_waits}
use Rattle.tab_turns.specs.Beginning.{IsFirst}
use Rattle.unasked.proofs.Readings.{request_read}
use Rattle.unload_check.specs.Checks.{OpenCheck}

module _ (p : InPass) (mid : List RowKind) (t : Tables) (queue : Queue) (blame : List (StateId × ReqId)) (cause : Why) (at : IsClearedIn true p mid t queue blame cause) (req : ReqId) (holds : HoldsQueue p.event queue req) where
  abbrev e : InEvent
  e = p.event

  abbrev now : Seen
  now = now_of p.event mid

  -- it joined first
  queued : HasQueue now None (Traverse req holds.delta ∷ holds.rest)
  queued =
      subst (λ (l : List QueueStep). HasQueue now None l) holds.front (subst (λ (run : Option ReqId). HasQueue now run queue.waiting) at.idle at.ready.queueing.queued)

  first : IsFirst now req holds.delta
  first = (ahead now req holds.delta (filter is_traverse holds.rest) queued.traversals).0

  waits : IsWaitingFirst now req holds.delta
  waits = first_waits t.running p.loads p.hand now at.ready.passing.going.tab req holds.delta first

  -- a request's ending is read off the log without questions
  ending_read : (q : Asked) → (unasked_request e.checking q).ending ≡ q.ending
  ending_read q =
      elim (e.checking q.nr) as (λ b. (let r : Asked = cond b (unbegun q) (without_asks q) in r).ending ≡ q.ending) [
        | true ↦ refl
        | false ↦ refl
      ]

  -- so it is open, and has begun
  pub under_way : IsUnderWay (log_of p.event mid) req
  unfolding now_of
  under_way q found =
      let begun : q.is_started ≡ true = at.ready.passing.work.checks.begun req q found holds.on in
      let seen : request_of now req ≡ Some (unasked_request e.checking q) =
      request_read e.checking (log_of e mid) req ∙ ap (λ (o : Option Asked). option_map (unasked_request e.checking) o) found in
      let both : Some waits.q ≡ Some (unasked_request e.checking q) = sym waits.at ∙ seen in
      let one : waits.q ≡ unasked_request e.checking q = cc in
      let open_ : q.ending ≡ None = sym (ending_read q) ∙ ap (λ (x : Asked). x.ending) (sym one) ∙ waits.open_ in
      rw begun (rw open_ refl)

  -- and is each of those whose checks are looked at
  pub are_under_way : (table : List (ReqId × OpenCheck)) → AreUnderWay (log_of p.event mid) (waiting_among table (req ∷ []))
  are_under_way table r has = subst (λ (x : ReqId). IsUnderWay (log_of p.event mid) x) (one_is table req r has) under_way
