-- Where no turn of the queue is due, no step is put off.
use Rattle.seen_facts.specs.Asked.Asking.{ArePlain}
use Rattle.seen_facts.proofs.Hang.Members.{find_has}
use Rattle.seen_facts.specs.Hang.Members.{Has}
use Rattle.log_model.proofs.Refl.{nat_eq_refl}
use Rattle.log_model.specs.ActsAtOnce.{ends_stepped, has_document, has_no_step_waiting, has_reason_to_run, is_ready_load}
use Rattle.log_model.specs.Equal.{implies}
use Rattle.log_model.specs.Once.{loads}
use Rattle.log_model.specs.Places.{aim_of, all_stand, is_load, is_ongoing_load, is_traversal, is_under_way, passed_traversal, running_traversal}
use Rattle.log_model.specs.Queue.{is_queue_free, is_step_under_way}
use Rattle.log_model.specs.Seen.{Asked, Seen, request_in, request_of}
use Rattle.log_model.specs.declared.request.Request.{Request}
use Rattle.move_queue.specs.declared.queue_step.QueueStep.{QueueStep}
use Rattle.seen_facts.proofs.Rest.Seated.{all_has}
use Rattle.seen_facts.proofs.Rest.Stands.{all_requests}
use Rattle.std.proofs.Common.{Bool, List, None, Option, Some, [], ap, false, inl, inr, length, not, refl, subst, sym, true, ◌&&◌, ◌==◌, ◌∙◌, ◌∷◌, ◌≡◌}
use Rattle.std.proofs.lemmas.Bool.{and_parts}
use Rattle.std.specs.List.{list_all}
use Rattle.std.specs.Prelude.{is_some, option_and_then}
use Rattle.tab_begins.specs.Queueing.{AreStepsOf, HasQueue}
use Rattle.tab_ids.specs.declared.ReqId.{ReqId}
use Rattle.tab_begins.proofs.PassedOn.{passed_is, running_is}
use Rattle.tab_rests.specs.Resting.{IsNoneDue}
use Rattle.log_model.specs.declared.request.Request.TheVariants as requests

implied : (a b : Bool) → b ≡ true → implies a b ≡ true
implied true b is = is
implied false b is = refl

unless : (a b : Bool) → a ≡ false → implies a b ≡ true
unless false b is = refl
unless true b is = absurd cc

neither : (a b : Bool) → b ≡ false → (a && b) ≡ false
neither true b is = is
neither false b is = refl

off : (a b : Bool) → a ≡ false → (a && b) ≡ false
off false b is = refl
off true b is = absurd cc

both : {a b : Bool} → a ≡ true → b ≡ true → (a && b) ≡ true
both x y = rw (x, y) refl

module _ (s : Seen) (run : Option ReqId) (asked : ArePlain run s) (waiting : List QueueStep) (queued : HasQueue s run waiting) where
  runs : passed_traversal s ≡ option_and_then (λ (req : ReqId). request_in s.requests req) run
  runs = passed_is s run asked ∙ running_is s run asked

  reason : (o : Option ReqId) → run ≡ o → IsNoneDue s o waiting → has_reason_to_run s ≡ true
  reason None is due =
      ap (λ (o : Option Asked). implies (is_some o) (not (all_stand s (aim_of s)))) (runs ∙ ap (λ (o : Option ReqId). option_and_then (λ (req : ReqId). request_in s.requests req) o) is)
  reason (Some req) is due =
      implied (is_some (passed_traversal s)) (not (all_stand s (aim_of s))) (ap not due)

  -- ---- none waits

  none_joined : (joined : List ReqId) → AreStepsOf s.requests joined [] → (length joined == 0) ≡ true
  none_joined [] are = refl
  none_joined (req ∷ joined) are = absurd are

  module _ (idle : run ≡ None) (empty : waiting ≡ []) where
    its : HasQueue s None []
    its = subst (λ (l : List QueueStep). HasQueue s None l) empty (subst (λ (o : Option ReqId). HasQueue s o waiting) idle queued)

    unready : (req : ReqId) (q : Asked) → request_of s req ≡ Some q → not (is_ready_load s q) ≡ true
    unready req q at = by_test (is_ready_load s q) refl
      where
        never : (what : Request) → q.what ≡ what → is_load what ≡ true → is_ready_load s q ≡ true → ⊥
        never (requests.Load nav mode address) is load ready =
            its.ready req q nav at ready (ap (loads nav) is ∙ nat_eq_refl nav.0)
        never (requests.Go delta) is load ready = cc
        never (requests.Poke nav action) is load ready = cc
        never (requests.Reload nav) is load ready = cc

        by_test : (b : Bool) → is_ready_load s q ≡ b → not b ≡ true
        by_test false is = refl
        by_test true is =
            absurd (never q.what refl (and_parts (is_under_way q) (is_load q.what) (and_parts (is_ongoing_load q) (has_document s q) is).0).1 is)

    none_waits : has_no_step_waiting s ≡ true
    none_waits =
        both (none_joined s.joined its.traversals) (all_requests s.requests (λ (q : Asked). not (is_ready_load s q)) unready)

  -- ---- one runs

  module _ (req : ReqId) (ran : run ≡ Some req) where
    running : running_traversal s ≡ Some (asked.runs req ran).q
    running =
        running_is s run asked ∙ ap (λ (o : Option ReqId). option_and_then (λ (r : ReqId). request_in s.requests r) o) ran ∙ (asked.runs req ran).found

    under_way : is_step_under_way (asked.runs req ran).q ≡ true
    under_way =
        let found = find_has (λ (q : Asked). is_under_way q && is_traversal q.what) s.requests (asked.runs req ran).q running in
        let parts = and_parts (is_under_way (asked.runs req ran).q) (is_traversal (asked.runs req ran).q.what) found.1 in
        rw (parts.0, parts.1) refl

    not_free : list_all (λ (q : Asked). not (is_step_under_way q)) s.requests ≡ false
    not_free = by_test (list_all (λ (q : Asked). not (is_step_under_way q)) s.requests) refl
      where
        there : Has s.requests (asked.runs req ran).q
        there = (find_has (λ (q : Asked). is_under_way q && is_traversal q.what) s.requests (asked.runs req ran).q running).0

        by_test : (b : Bool) → list_all (λ (q : Asked). not (is_step_under_way q)) s.requests ≡ b → list_all (λ (q : Asked). not (is_step_under_way q)) s.requests ≡ false
        by_test false is = is
        by_test true is =
            let no_ : not (is_step_under_way (asked.runs req ran).q) ≡ true = all_has (λ (q : Asked). not (is_step_under_way q)) s.requests is (asked.runs req ran).q there in
            let never : false ≡ true = ap not (sym under_way) ∙ no_ in
            absurd cc

  waits : (o : Option ReqId) → run ≡ o → IsNoneDue s o waiting → implies (is_queue_free s) (has_no_step_waiting s) ≡ true
  waits None is (inl unsettled) =
      unless (is_queue_free s) (has_no_step_waiting s) (neither (list_all (λ (q : Asked). not (is_step_under_way q)) s.requests) (all_stand s s.history.current) unsettled)
  waits None is (inr empty) = implied (is_queue_free s) (has_no_step_waiting s) (none_waits is empty)
  waits (Some req) is due =
      unless (is_queue_free s) (has_no_step_waiting s) (off (list_all (λ (q : Asked). not (is_step_under_way q)) s.requests) (all_stand s s.history.current) (not_free req is))

  pub stepped : IsNoneDue s run waiting → ends_stepped s ≡ true
  unfolding ends_stepped
  stepped due = both (reason run refl due) (waits run refl due)
