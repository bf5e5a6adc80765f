-- The traversal that is to ask before it begins, where the tab rests for that: it is the first that joined, and where it goes, whom it asks, and that these are there is as the tables tell.
use Rattle.leave_questions.proofs.Due.{traverse_held}
use Rattle.leave_questions.specs.Questions.{HasSlots, traverse_questions}
use Rattle.log_model.specs.Orders.{due_questions}
use Rattle.log_model.specs.Places.{is_traversal}
use Rattle.log_model.specs.Seen.{Asked, Seen, request_of}
use Rattle.log_model.specs.Soundness.{IsSound}
use Rattle.log_model.specs.declared.job.Why.{Why}
use Rattle.log_model.specs.declared.request.Request.{Request}
use Rattle.log_model.specs.declared.row_kind.RowKind.{RowKind}
use Rattle.move_queue.specs.Queue.{Queue}
use Rattle.move_queue.specs.declared.queue_step.QueueStep.TheVariants.{Traverse}
use Rattle.move_queue.specs.declared.queue_step.QueueStep.{QueueStep}
use Rattle.seen_facts.specs.Each.Items.{NoneDied}
use Rattle.seen_facts.specs.Hang.Hanging.{Hangs}
use Rattle.seen_facts.specs.Home.Homes.{AreHomed}
use Rattle.seen_laws.proofs.InEvents.{now_is}
use Rattle.seen_laws.specs.InEvent.{InEvent, log_of, now_of}
use Rattle.seen_laws.specs.Unasked.{unasked, unasked_request}
use Rattle.std.proofs.Common.{List, None, Option, Some, ap, filter, subst, sym, true, ℕ, ◌∙◌, ◌∷◌, ◌≡◌}
use Rattle.std.specs.Prelude.{option_map}
use Rattle.step_index.specs.Held.{history_held}
use Rattle.tab_asked.proofs.There.{due_there}
use Rattle.tab_asked.proofs.Traversals.{no_load, no_reload}
use Rattle.tab_asks.specs.Asks.{AreThere}
use Rattle.tab_begins.proofs.Queues.{ahead}
use Rattle.tab_begins.specs.Queueing.{AreStepsOf, HaveJoined, is_traverse}
use Rattle.tab_doors.specs.Look.{look_of}
use Rattle.tab_doors.specs.Ties.{Holds}
use Rattle.tab_doors.specs.declared.tables.Tables.{Tables}
use Rattle.tab_facts.specs.TabWhole.Tab.{IsTab}
use Rattle.tab_ids.specs.declared.DocId.{DocId}
use Rattle.tab_ids.specs.declared.ReqId.{ReqId}
use Rattle.tab_ids.specs.declared.StateId.{StateId}
use Rattle.tab_ids.specs.declared.Step.{Step}
use Rattle.tab_settles.specs.PassedOn.{InPass}
use Rattle.tab_settles.specs.Settling.{AsksFirst, HasSettled}
use Rattle.tab_turns.proofs.Begins.{leads_same, what_bare}
use Rattle.tab_turns.proofs.Firsts.{IsWaitingFirst, first_waits}
use Rattle.tab_turns.specs.Beginning.{IsFirst, step_by}
use Rattle.unasked.proofs.Readings.{request_read}

some_same : {A : Type 0} {a b : A} → (let o : Option A = Some a in o) ≡ Some b → a ≡ b
some_same is = cc

module _ (p : InPass) (out : List RowKind) (t : Tables) (queue : Queue) (blame : List (StateId × ReqId)) (cause : Why) (at : HasSettled p out t queue blame cause) (over : AsksFirst p.event out t.running queue.waiting) where
  abbrev e : InEvent
  e = p.event

  abbrev s : Seen
  s = now_of e out

  abbrev log : Seen
  log = log_of e out

  abbrev goal : Step
  goal = over.first.goal

  abbrev q : Asked
  q = over.first.q

  tab : IsTab t.running p.loads p.hand s
  tab = at.passing.going.tab

  -- what holds of the log without questions, as it is had of the log
  at_bare : (P : Seen → Type 0) → P s → P (unasked e.checking log)
  at_bare P is = subst P (now_is e out) is

  sound_log : IsSound log.history
  sound_log = at_bare (λ (x : Seen). IsSound x.history) tab.sound

  hangs_bare : Hangs (unasked e.checking log)
  hangs_bare = at_bare Hangs tab.hangs

  homes_bare : AreHomed (unasked e.checking log)
  homes_bare = at_bare AreHomed tab.homes

  -- it is the first that joined
  pub first_joined : IsFirst s over.req over.first.delta
  first_joined = (ahead s over.req over.first.delta (filter is_traverse over.first.rest) steps).0
    where
      steps : AreStepsOf s.requests s.joined (Traverse over.req over.first.delta ∷ filter is_traverse over.first.rest)
      steps =
          subst (λ (l : List QueueStep). HaveJoined s None (filter is_traverse l)) over.first.front
          (subst (λ (r : Option ReqId). HaveJoined s r (filter is_traverse queue.waiting)) over.idle at.queueing.queued.traversals)

  -- the store has the step that it goes to
  pub goal_held : step_by (history_held t.store) over.first.delta ≡ Some goal.0
  goal_held = leads_same e out t at.passing.work over.first.delta ∙ over.first.there

  its : IsWaitingFirst s over.req over.first.delta
  its = first_waits t.running p.loads p.hand s tab over.req over.first.delta first_joined

  goes : is_traversal q.what ≡ true
  goes =
      ap (λ (w : Request). is_traversal w) (sym (what_bare e.checking q)) ∙ ap (λ (x : Asked). is_traversal x.what) (sym read) ∙ its.goes
    where
      read : its.q ≡ unasked_request e.checking q
      read =
          some_same (sym (at_bare (λ (x : Seen). request_of x over.req ≡ Some its.q) its.at) ∙ request_read e.checking log over.req ∙ ap (λ (o : Option Asked). option_map (unasked_request e.checking) o) over.first.at)

  -- whom the tables tell of is whom it is due to ask
  pub questions_held : (slots : List (DocId × ℕ)) → HasSlots log slots → traverse_questions slots (history_held t.store).rows goal.0 t.tree ≡ due_questions log q.what (Some goal)
  questions_held slots has =
      traverse_held log e.checking t.running t slots (at_bare (λ (x : Seen). Holds (look_of x t.running) t) at.passing.work.holds) sound_log hangs_bare homes_bare.homed has q.what goal (no_load q.what goes) (no_reload q.what goes)

  -- these are there
  pub asked_there : AreThere log (due_questions log q.what (Some goal))
  asked_there =
      due_there log e.checking sound_log hangs_bare homes_bare.homed (at_bare NoneDied tab.asked.died) q.what (Some goal)
