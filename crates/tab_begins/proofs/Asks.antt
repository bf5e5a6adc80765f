-- Whom a traversal is to ask before it begins, as the tables tell, is whom it is due to ask in the log itself.
use Rattle.leave_questions.proofs.Due.{traverse_held}
use Rattle.leave_questions.specs.Questions.{HasSlots, traverse_questions}
use Rattle.log_model.specs.Once.{step_at_delta}
use Rattle.log_model.specs.Orders.{Question, due_questions}
use Rattle.log_model.specs.Places.{is_load, is_reload, is_traversal}
use Rattle.log_model.specs.Seen.{Asked, Seen, request_of}
use Rattle.log_model.specs.declared.request.Request.TheVariants as requests
use Rattle.log_model.specs.declared.request.Request.{Request}
use Rattle.log_model.specs.declared.row_kind.RowKind.{RowKind}
use Rattle.move_queue.specs.Queue.{Queue}
use Rattle.move_queue.specs.declared.queue_step.QueueStep.TheVariants.{Traverse}
use Rattle.move_queue.specs.declared.queue_step.QueueStep.{QueueStep}
use Rattle.log_model.specs.Soundness.{IsSound}
use Rattle.seen_facts.specs.Hang.Hanging.{Hangs}
use Rattle.seen_facts.specs.Home.Homes.{EachWake, IsHomed}
use Rattle.seen_laws.proofs.InEvents.{now_is}
use Rattle.seen_laws.specs.InEvent.{InEvent, log_of, now_of}
use Rattle.seen_laws.specs.Unasked.{unasked, unasked_request}
use Rattle.std.proofs.Common.{Bool, List, None, Option, Some, [], ap, false, refl, subst, sym, true, ℕ, ℤ, ◌∙◌, ◌∷◌, ◌≡◌}
use Rattle.std.proofs.lemmas.Option.{same_Some}
use Rattle.std.specs.Option.{option_map_or}
use Rattle.std.specs.Prelude.{is_some, slice_get}
use Rattle.step_index.specs.Held.{history_held}
use Rattle.tab_applies.proofs.PassedOn.{IsWaitingFirst, first_waits}
use Rattle.tab_applies.specs.PassedOn.{IsFirst, MayGoUnasked}
use Rattle.tab_begins.specs.PassedOn.{InPass, IsPassing, IsTab}
use Rattle.tab_begins.specs.Queueing.{HasQueue, IsToAsk, are_asked_by, asked_by}
use Rattle.tab_doors.proofs.LogDues.{found_from}
use Rattle.tab_doors.specs.Look.{look_of}
use Rattle.tab_doors.specs.Ties.{Holds}
use Rattle.tab_doors.specs.declared.tables.Tables.{Tables}
use Rattle.tab_ids.specs.declared.DocId.{DocId}
use Rattle.tab_ids.specs.declared.ReqId.{ReqId}
use Rattle.tab_ids.specs.declared.Step.{Step}
use Rattle.tab_turns.proofs.Begins.{leads_same, what_bare}

-- a traversal is neither a load nor a reload
loads_none : (what : Request) → is_traversal what ≡ true → is_load what ≡ false
loads_none (requests.Go delta) goes = refl
loads_none (requests.Poke nav action) goes = refl
loads_none (requests.Load nav mode address) goes = absurd cc
loads_none (requests.Reload nav) goes = refl

reloads_none : (what : Request) → is_traversal what ≡ true → is_reload what ≡ false
reloads_none (requests.Go delta) goes = refl
reloads_none (requests.Poke nav action) goes = refl
reloads_none (requests.Load nav mode address) goes = refl
reloads_none (requests.Reload nav) goes = absurd cc

-- a list without a first question is empty
none_first : (questions : List Question) → is_some (slice_get questions 0) ≡ false → questions ≡ []
none_first [] is = refl
none_first (question ∷ questions) is = absurd cc

module _ (p : InPass) (out : List RowKind) (t : Tables) (passing : IsPassing p out t) (slots : List (DocId × ℕ)) (has : HasSlots (log_of p.event out) slots) (req : ReqId) (delta : ℤ) (first : IsFirst (now_of p.event out) req delta) where
  abbrev e : InEvent
  e = p.event

  abbrev s : Seen
  s = now_of e out

  abbrev log : Seen
  log = log_of e out

  tab : IsTab t.running p.loads p.hand s
  tab = passing.going.tab

  its : IsWaitingFirst s req delta
  its = first_waits t.running p.loads p.hand s tab req delta first

  -- the request as the log itself has it
  real : (q : Asked) × (request_of log req ≡ Some q) × (its.q ≡ unasked_request e.checking q)
  real = found_from e.checking log req its.q (subst (λ (x : Seen). request_of x req ≡ Some its.q) (now_is e out) its.at)

  goes : is_traversal real.0.what ≡ true
  goes =
      ap (λ (w : Request). is_traversal w) (sym (what_bare e.checking real.0)) ∙ ap (λ (q : Asked). is_traversal q.what) (sym real.2) ∙ its.goes

  at_bare : (P : Seen → Type 0) → P s → P (unasked e.checking log)
  at_bare P is = subst P (now_is e out) is

  -- to go to a step it asks whom it is due to ask
  asked_due : (goal : Step) → traverse_questions slots (history_held t.store).rows goal.0 t.tree ≡ due_questions log real.0.what (Some goal)
  asked_due goal =
      traverse_held log e.checking t.running t slots
      (at_bare (λ (x : Seen). Holds (look_of x t.running) t) passing.work.holds) (at_bare (λ (x : Seen). IsSound x.history) tab.sound) (at_bare Hangs tab.hangs) (at_bare (λ (x : Seen). EachWake (IsHomed x.documents) x) tab.homes.homed)
      has real.0.what goal (loads_none real.0.what goes) (reloads_none real.0.what goes)

  by_goal : (goal : Step) → step_at_delta s delta ≡ Some goal.0 → asked_by slots t delta ≡ due_questions log real.0.what (Some goal)
  by_goal goal there =
      ap (λ (o : Option ℕ). option_map_or (λ (step : ℕ). traverse_questions slots (history_held t.store).rows step t.tree) o []) (leads_same e out t passing.work delta ∙ there) ∙ asked_due goal

  -- where the tables tell of nobody, it asks nobody
  pub may_go : (asks : Bool) → asks ≡ are_asked_by slots t delta → asks ≡ false → MayGoUnasked e out req delta
  may_go asks is none goal there q at =
      let same : real.0 ≡ q = same_Some real.0 q (sym real.1 ∙ at) in
      subst (λ (x : Asked). due_questions log x.what (Some goal) ≡ []) same (sym (by_goal goal there) ∙ none_first (asked_by slots t delta) (sym is ∙ none))

  -- where they tell of somebody, it is to ask
  pub to_ask : (asks : Bool) → asks ≡ are_asked_by slots t delta → asks ≡ true → (waiting rest : List QueueStep) → waiting ≡ Traverse req delta ∷ rest → IsToAsk e out waiting req
  to_ask asks is some waiting rest front = by_step (step_at_delta s delta) refl
    where
      by_step : (o : Option ℕ) → step_at_delta s delta ≡ o → IsToAsk e out waiting req
      by_step None nowhere =
          let never : true ≡ false = sym some ∙ is ∙ ap (λ (o : Option ℕ). is_some (slice_get (option_map_or (λ (step : ℕ). traverse_questions slots (history_held t.store).rows step t.tree) o []) 0)) (leads_same e out t passing.work delta ∙ nowhere) in absurd cc
      by_step (Some step) there =
          record {
            delta = delta;
            rest = rest;
            front = front;
            goal = record { 0 = step };
            there = there;
            q = real.0;
            at = real.1;
            asks = ap (λ (questions : List Question). is_some (slice_get questions 0)) (sym (by_goal (record { 0 = step }) there)) ∙ sym is ∙ some;
          }

-- the step that is put back waits before the others
pub put_front : (req : ReqId) (given delta : ℤ) → given ≡ delta → (was now_ : Queue) → now_ ≡ record was { waiting = Traverse req delta ∷ was.waiting } → now_.waiting ≡ Traverse req given ∷ was.waiting
put_front req given delta same was now_ put =
    ap (λ (q : Queue). q.waiting) put ∙ ap (λ (d : ℤ). let l : List QueueStep = Traverse req d ∷ was.waiting in l) (sym same)

-- so the queue waits on
pub put_queue : (s : Seen) (run : Option ReqId) → run ≡ None → (step other : QueueStep) → step ≡ other → (was now_ : Queue) → now_ ≡ record was { waiting = other ∷ was.waiting } → HasQueue s None (step ∷ was.waiting) → HasQueue s run now_.waiting
put_queue s run idle step other same was now_ put queue =
    subst (λ (r : Option ReqId). HasQueue s r now_.waiting) (sym idle)
    (subst (λ (l : List QueueStep). HasQueue s None l) (sym (ap (λ (q : Queue). q.waiting) put)) (subst (λ (x : QueueStep). HasQueue s None (x ∷ was.waiting)) same queue))
