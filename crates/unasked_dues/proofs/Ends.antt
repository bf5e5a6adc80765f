-- What holds as an event ends, read off the log as it would be had nobody been asked: each navigable was told, no step is put off, and a load that began is alone.
use Rattle.std.proofs.Common.{◌≡◌, ℕ, ◌-◌, zero, suc, Bool, true, false, cond, not, ◌&&◌, ◌==◌, List, [], ◌∷◌, length, Option, Some, None, refl, sym, ap, ◌∙◌}
use Rattle.std.specs.Prelude.{nat_lt, slice_get, option_map, is_some}
use Rattle.std.specs.List.{list_all}
use Rattle.std.proofs.lemmas.Bool.{and_parts}
use Rattle.tab_ids.specs.declared.NavId.{NavId}
use Rattle.tab_ids.specs.declared.ReqId.{ReqId}
use Rattle.log_model.specs.ActsAtOnce.{ends_stepped, ends_told, has_no_step_waiting, has_reason_to_run, is_ready_load}
use Rattle.log_model.specs.Equal.{holds, implies, same_pair}
use Rattle.log_model.specs.Once.{has_no_earlier_load, loads}
use Rattle.log_model.specs.Places.{all_stand, is_awake, is_ongoing_load, passed_traversal}
use Rattle.log_model.specs.Queue.{is_queue_free, is_step_under_way}
use Rattle.log_model.specs.Seen.{Asked, Place, Seen, request_of}
use Rattle.seen_laws.proofs.Sendings.{both}
use Rattle.seen_laws.specs.Unasked.{unasked, unasked_request, unbegun, without_asks}
use Rattle.unasked.proofs.Lists.{found_at}
use Rattle.unasked_dues.proofs.Base.{aim_stand_same, all_same, at_index, due_same, free_same, item_found, passed_same}
use Rattle.unasked_dues.proofs.Loads.{has_same}
use Rattle.unasked_dues.proofs.Shows.{told_same}
use Rattle.unasked_dues.specs.Checking.{AreNumbered, IsAimed, IsMoving, NoStepChecks, NoneChecksBefore, NoneReady}

-- an item passes where each does
all_at : (test : Asked → Bool) (asked : List Asked) (k : ℕ) (q : Asked) → list_all test asked ≡ true → slice_get asked k ≡ Some q → test q ≡ true
all_at test [] k q all at = cc
all_at test (r ∷ asked) zero q all at =
    let it : r ≡ q = cc in ap test (sym it) ∙ (and_parts (test r) (list_all test asked) all).0
all_at test (r ∷ asked) (suc k) q all at =
    all_at test asked k q (and_parts (test r) (list_all test asked) all).1 at

module _ (checking : ReqId → Bool) (s : Seen) where
  -- each awake navigable was told what is due
  pub ends_told_same : IsMoving checking s → ends_told (unasked checking s) ≡ ends_told s
  unfolding ends_told
  ends_told_same moving =
      λ i. list_all (λ (place : Place). implies (is_awake place) (holds (same_pair (due_same checking s moving place.nav i)) (told_same checking s place i))) s.places

  -- a passed traversal goes on only as long as not all stand at the aim
  pub reason_same : IsAimed checking s → has_reason_to_run (unasked checking s) ≡ has_reason_to_run s
  reason_same aimed = λ i. implies (some_same i) (not (aim_stand_same checking s aimed i))
    where
      by_run : (o : Option Asked) → is_some (option_map without_asks o) ≡ is_some o
      by_run None = refl
      by_run (Some q) = refl

      some_same : is_some (passed_traversal (unasked checking s)) ≡ is_some (passed_traversal s)
      some_same =
          ap (λ (o : Option Asked). is_some o) (passed_same checking s aimed) ∙ by_run (passed_traversal s)

  -- where a step of the queue may begin, none is in its check
  pub free_steps : is_queue_free s ≡ true → NoStepChecks checking s
  free_steps free req q found on =
      let each = (and_parts (list_all (λ r. not (is_step_under_way r)) s.requests) (all_stand s s.history.current) free).0 in
      by_step (is_step_under_way q) (all_at (λ r. not (is_step_under_way r)) s.requests (req.0 - 1) q each (found_at s.requests req q found))
    where
      by_step : (b : Bool) → not b ≡ true → b ≡ false
      by_step true e = cc
      by_step false e = refl

  -- no step of the queue waits
  pub waiting_same : AreNumbered s → NoneReady checking s → has_no_step_waiting (unasked checking s) ≡ has_no_step_waiting s
  waiting_same numbered none =
      ap (λ b. length s.joined == 0 && b) (all_same (unasked_request checking) (λ q. not (is_ready_load (unasked checking s) q)) (λ q. not (is_ready_load s q)) s.requests (λ k q at. ap not (ready_same (at_index k) q (item_found s k ∙ at))))
    where
      ready_same : (req : ReqId) (q : Asked) → request_of s req ≡ Some q → is_ready_load (unasked checking s) (unasked_request checking q) ≡ is_ready_load s q
      ready_same req q found =
          by_check (checking q.nr) (λ on. none req q found (ap checking (sym (numbered req q found)) ∙ on)) refl
        where
          by_check : (b : Bool) → (checking q.nr ≡ true → is_ready_load s q ≡ false) → checking q.nr ≡ b → is_ready_load (unasked checking s) (cond b (unbegun q) (without_asks q)) ≡ is_ready_load s q
          by_check true more e = sym (more e)
          by_check false more e = ap (λ b. is_ongoing_load q && b) (has_same checking s q)

  -- no step is put off, where as it would be none is while no step is in its check
  pub ends_stepped_in : IsAimed checking s → NoneReady checking s → has_reason_to_run (unasked checking s) ≡ true → (NoStepChecks checking s → is_queue_free (unasked checking s) ≡ true → has_no_step_waiting (unasked checking s) ≡ true) → ends_stepped s ≡ true
  unfolding ends_stepped
  ends_stepped_in aimed none reason waits =
      both (sym (reason_same aimed) ∙ reason) (by_free (is_queue_free s) refl)
    where
      by_free : (b : Bool) → is_queue_free s ≡ b → implies b (has_no_step_waiting s) ≡ true
      by_free true free =
          let steps = free_steps free in
          sym (waiting_same aimed.numbered none) ∙ waits steps (free_same checking s aimed.numbered steps ∙ free)
      by_free false free = refl

  -- no earlier load of the navigable is ongoing
  pub earlier_same : AreNumbered s → (req : ReqId) (nav : NavId) → NoneChecksBefore checking s req nav → has_no_earlier_load (unasked checking s) req nav ≡ has_no_earlier_load s req nav
  earlier_same numbered req nav none =
      all_same (unasked_request checking) (λ (q : Asked). not (is_ongoing_load q && nat_lt q.nr.0 req.0 && loads nav q.what)) (λ (q : Asked). not (is_ongoing_load q && nat_lt q.nr.0 req.0 && loads nav q.what)) s.requests (λ k q at. ap not (one_same (at_index k) q (item_found s k ∙ at)))
    where
      one_same : (other : ReqId) (q : Asked) → request_of s other ≡ Some q → (let r : Asked = unasked_request checking q in is_ongoing_load r && nat_lt r.nr.0 req.0 && loads nav r.what) ≡ (is_ongoing_load q && nat_lt q.nr.0 req.0 && loads nav q.what)
      one_same other q found =
          by_check (checking q.nr) (λ on. none other q found (ap checking (sym (numbered other q found)) ∙ on)) refl
        where
          by_check : (b : Bool) → (checking q.nr ≡ true → (is_ongoing_load q && nat_lt q.nr.0 req.0 && loads nav q.what) ≡ false) → checking q.nr ≡ b → (let r : Asked = cond b (unbegun q) (without_asks q) in is_ongoing_load r && nat_lt r.nr.0 req.0 && loads nav r.what) ≡ (is_ongoing_load q && nat_lt q.nr.0 req.0 && loads nav q.what)
          by_check true more e = sym (more e)
          by_check false more e = refl
