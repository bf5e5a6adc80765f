-- A traversal has ended after a pass: all is as after a pass still, at the step that it led to, and the queue waits on.
use Rattle.seen_laws.proofs.InEvents.{now_at}
use Rattle.tab_facts.specs.Calm.Calm.{HasUsable}
use Rattle.seen_facts.proofs.Coord.Held.{on_else}
use Rattle.tab_facts.specs.Frame.Lasting.{Wish, wish}
use Rattle.seen_facts.specs.Load.Loading.{Look, is_ongoing, look, look_of}
use Rattle.log_model.specs.AfterRequests.{entries_taken, on_request}
use Rattle.log_model.specs.Orders.{is_usable}
use Rattle.log_model.specs.Places.{aim_of, all_stand, all_stand_in, is_load, is_traversal}
use Rattle.log_model.specs.Seen.{Asked, Document, Place, Seen, request_in}
use Rattle.move_queue.specs.declared.queue_step.QueueStep.{QueueStep}
use Rattle.seen_facts.specs.Asked.Asking.{IsThere}
use Rattle.log_model.specs.declared.change.Change.{Change}
use Rattle.log_model.specs.declared.row.Row.{Row}
use Rattle.log_model.specs.declared.row_kind.RowKind.{RowKind}
use Rattle.row_facts.proofs.Owed.Requests.{req_same}
use Rattle.seen_laws.specs.InEvent.{InEvent, now_of}
use Rattle.std.proofs.Common.{Bool, List, None, Option, Some, ap, false, refl, subst, sym, true, ℕ, filter, ◌&&◌, ◌==◌, ◌∙◌, ◌≡◌}
use Rattle.std.proofs.lemmas.Bool.{and_parts}
use Rattle.std.specs.List.{list_any}
use Rattle.std.specs.Prelude.{is_none, option_map}
use Rattle.tab_begins.proofs.Begins.{passed_on, strays_on}
use Rattle.tab_begins.proofs.Queues.{await_on, deltas_same, rest_left, steps_on}
use Rattle.tab_begins.specs.Queueing.{AreLeftStrays, AreStepsOf, HasPassed, HasQueue, HaveJoined, IsAheadOf, is_traverse}
use Rattle.tab_doors.specs.declared.tables.Tables.{Tables}
use Rattle.tab_ids.specs.declared.ReqId.{ReqId}
use Rattle.tab_ids.specs.declared.StateId.{StateId}
use Rattle.tab_begins.proofs.Afters.{InPass, IsPassing}
use Rattle.tab_begins.specs.PassedOn.{HasEnded}
use Rattle.tab_facts.proofs.TabWhole.Beginning.{no_load}
use Rattle.tab_facts.specs.TabWhole.Tab.{IsTab}
use Rattle.log_model.specs.declared.change.Change.TheVariants as changes
use Rattle.log_model.specs.declared.outcome.Ending.TheVariants as endings
use Rattle.log_model.specs.declared.row_kind.RowKind.TheVariants as rows

module _ (p : InPass) (out : List RowKind) (t : Tables) (passing : IsPassing p out t) (passed : HasPassed p.event (now_of p.event out)) (more : List RowKind) (u : Tables) (ended : HasEnded p.event out more t u) where
  abbrev e : InEvent
  e = p.event

  abbrev s : Seen
  s = now_of e out

  abbrev n : Seen
  n = now_of e more

  abbrev req : ReqId
  req = ended.req

  tab : IsTab (Some req) p.loads p.hand s
  tab = subst (λ (r : Option ReqId). IsTab r p.loads p.hand s) ended.ran passing.going.tab

  own : IsThere s req
  own = tab.asked.runs req refl

  -- the traversal is no load, before and then
  no_look : (l : Look) → is_traversal l.what ≡ true → is_ongoing l ≡ true → ⊥
  no_look l goes on =
      let never : true ≡ false = sym (and_parts (l.is_started && is_none l.ending) (is_load l.what) on).1 ∙ no_load l.what goes in cc

  own_was : (l : Look) → look_of s req ≡ Some l → is_traversal l.what ≡ true
  own_was l at =
      let two : Some (look own.q) ≡ Some l = sym (ap (option_map look) own.found) ∙ at in
      let one : look own.q ≡ l = cc in
      ap (λ (x : Look). is_traversal x.what) (sym one) ∙ own.traverses

  own_then : (l : Look) → look_of n req ≡ Some l → is_traversal l.what ≡ true
  own_then l at = by_found (request_in n.requests req) refl
    where
      by_found : (o : Option Asked) → request_in n.requests req ≡ o → is_traversal l.what ≡ true
      by_found None none = let never : None ≡ Some l = sym (ap (option_map look) none) ∙ at in absurd cc
      by_found (Some x) found =
          let wishes : Some (wish x) ≡ Some (wish own.q) = sym (ap (option_map wish) found) ∙ ended.alone.wishes req ∙ ap (option_map wish) own.found in
          let same : wish x ≡ wish own.q = cc in
          let two : Some (look x) ≡ Some l = sym (ap (option_map look) found) ∙ at in
          let one : look x ≡ l = cc in
          ap (λ (y : Look). is_traversal y.what) (sym one) ∙ ap (λ (w : Wish). is_traversal w.what) same ∙ own.traverses

  abbrev change : Change
  change = changes.Traverse (record { 0 = aim_of s })

  other : (r : ReqId) → (r.0 == req.0) ≡ false → look_of n r ≡ look_of s r
  other r apart =
      ap (λ (x : Seen). look_of x r) (now_at e out (rows.Applied req change) more ended.out ended.goes)
      ∙ ap (λ (o : Option Asked). option_map look o)
      (on_else (on_request req (λ (x : Asked). record x { change = Some change }) (on_request req (λ (x : Asked). record x { ending = Some endings.Applied }) s.requests)) req (λ (x : Asked). record x { took = entries_taken s.history change }) r apart
      ∙ on_else (on_request req (λ (x : Asked). record x { ending = Some endings.Applied }) s.requests) req (λ (x : Asked). record x { change = Some change }) r apart
      ∙ on_else s.requests req (λ (x : Asked). record x { ending = Some endings.Applied }) r apart)

  pub ended_loads : (r : ReqId) (l : Look) → look_of n r ≡ Some l → is_ongoing l ≡ true → look_of s r ≡ Some l
  ended_loads r l at on = by_own (r.0 == req.0) refl
    where
      by_own : (b : Bool) → (r.0 == req.0) ≡ b → look_of s r ≡ Some l
      by_own true same = absurd (no_look l (own_then l (ap (λ (x : ReqId). look_of n x) (sym (req_same r req same)) ∙ at)) on)
      by_own false apart = sym (other r apart) ∙ at

  still : (r : ReqId) (l : Look) → look_of s r ≡ Some l → is_ongoing l ≡ true → look_of n r ≡ Some l
  still r l at on = by_own (r.0 == req.0) refl
    where
      by_own : (b : Bool) → (r.0 == req.0) ≡ b → look_of n r ≡ Some l
      by_own true same = absurd (no_look l (own_was l (ap (λ (x : ReqId). look_of s x) (sym (req_same r req same)) ∙ at)) on)
      by_own false apart = other r apart ∙ at

  -- ---- what is so then

  stood : all_stand n (aim_of n) ≡ true → all_stand s (aim_of s) ≡ true
  stood all =
      ap (λ (l : List Row). all_stand_in l s.places (aim_of s)) (sym ended.alone.rows_)
      ∙ ap (λ (l : List Place). all_stand_in n.history.rows l (aim_of s)) (sym ended.alone.places)
      ∙ ap (λ (k : ℕ). all_stand n k) (sym ended.aim)
      ∙ all

  pub ended_passed : HasPassed e n
  ended_passed = passed_on p s n ended.alone ended_loads still passed ended.aim stood

  pub ended_stand : all_stand s (aim_of s) ≡ true → all_stand n n.history.current ≡ true
  ended_stand all =
      ap (λ (k : ℕ). all_stand n k) ended.current
      ∙ ap (λ (l : List Row). all_stand_in l n.places (aim_of s)) ended.alone.rows_
      ∙ ap (λ (l : List Place). all_stand_in s.history.rows l (aim_of s)) ended.alone.places
      ∙ all

  pub ended_strays : (blame : List (StateId × ReqId)) → AreLeftStrays s blame → AreLeftStrays n blame
  ended_strays blame left = strays_on p s n ended.alone ended_loads still passed blame left

  pub ended_queue : (waiting : List QueueStep) → HasQueue s t.running waiting → HasQueue n u.running waiting
  ended_queue waiting queue =
      subst (λ (r : Option ReqId). HasQueue n r waiting) (sym ended.none_runs) (record {
        traversals = subst (λ (l : List ReqId). AreStepsOf n.requests l (filter is_traverse waiting)) (sym joined_is) (steps_on s.requests n.requests front.rest (filter is_traverse waiting) (deltas_same s n ended.alone.wishes) front.steps_);
        ready = await_on s n usable_was ended_loads waiting queue.ready;
        steps = queue.steps;
      })
    where
      front : IsAheadOf s req (filter is_traverse waiting)
      front = subst (λ (r : Option ReqId). HaveJoined s r (filter is_traverse waiting)) ended.ran queue.traversals

      -- documents are as they were
      usable_was : (state : StateId) → HasUsable n state → HasUsable s state
      usable_was state some = ap (λ (l : List Document). list_any (λ (d : Document). is_usable d state) l) (sym ended.alone.documents) ∙ some

      joined_is : n.joined ≡ front.rest
      joined_is = ended.joined ∙ rest_left (Some req) p.loads p.hand s tab req front.rest own.q own.found own.traverses front.joined
