-- As a request passes its check, it begins in the log without questions.
use Rattle.std.proofs.Common.{◌≡◌, ℕ, ◌+◌, ◌-◌, Bool, true, false, cond, ◌==◌, List, map, Some, refl, sym, ap, ◌∙◌, arith}
use Rattle.std.specs.Prelude.{option_map, slice_get, slice_set}
use Rattle.std.specs.Option.{option_map_or}
use Rattle.std.proofs.lemmas.Bool.Decides.{nat_tests}
use Rattle.tab_ids.specs.declared.ReqId.{ReqId}
use Rattle.log_model.specs.Seen.{Asked, Seen, request_of}
use Rattle.log_model.specs.AfterRequests.{on_request}
use Rattle.unasked.specs.Premises.{IsNumbered}
use Rattle.seen_laws.specs.Unasked.{unasked, unasked_request, unbegun, without_asks}
use Rattle.unasked.proofs.Lists.{found_at, found_in, found_real, map_but, map_same, request_map}

-- a request as this one began
abbrev pub begun_as : Asked → Asked → Asked
begun_as q p =
    record p {
      is_started = q.is_started;
      goal = q.goal;
      state = q.state;
      replaces = q.replaces;
      awake_then = q.awake_then;
    }

module _ (checking passed : ReqId → Bool) (s : Seen) where
  -- where the same requests are in their check, the same is left
  pub unasked_same : ((req : ReqId) (q : Asked) → request_of s req ≡ Some q → passed q.nr ≡ checking q.nr) → unasked passed s ≡ unasked checking s
  unasked_same same =
      ap (λ (l : List Asked). record (unasked checking s) { requests = l }) (map_same (unasked_request passed) (unasked_request checking) s.requests (λ k q at. ap (λ b. cond b (unbegun q) (without_asks q)) (same (record { 0 = k + 1 }) q (found_in s.requests k q at))))

  -- a request passes its check, and no other
  pub passed_unasked : (req : ReqId) (q : Asked) → request_of s req ≡ Some q → ((r : ReqId) → IsNumbered s r) → passed req ≡ false → ((r : ReqId) → (r.0 == req.0) ≡ false → passed r ≡ checking r) → (let old = unasked checking s in unasked passed s ≡ record old { requests = on_request req (begun_as q) old.requests })
  passed_unasked req q found numbered off others =
      ap (λ (l : List Asked). record (unasked checking s) { requests = l }) (
      map_but (unasked_request checking) (unasked_request passed) s.requests (req.0 - 1) q (found_at s.requests req q found) (λ j p at apart. ap (λ b. cond b (unbegun p) (without_asks p)) (other j p at apart))
      ∙ ap (λ x. slice_set (map (unasked_request checking) s.requests) (req.0 - 1) x) (ap (λ b. cond b (unbegun q) (without_asks q)) (ap passed (numbered req q found) ∙ off) ∙ begun (checking q.nr))
      ∙ sym (ap (λ o. option_map_or (λ p. slice_set (map (unasked_request checking) s.requests) (req.0 - 1) (begun_as q p)) o (map (unasked_request checking) s.requests)) (request_map (unasked_request checking) s.requests req ∙ ap (option_map (unasked_request checking)) found))
      )
    where
      begun : (b : Bool) → without_asks q ≡ begun_as q (cond b (unbegun q) (without_asks q))
      begun true = refl
      begun false = refl

      other : (j : ℕ) (p : Asked) → slice_get s.requests j ≡ Some p → (j ≡ req.0 - 1 → ⊥) → passed p.nr ≡ checking p.nr
      other j p at apart =
          let nr : p.nr ≡ record { 0 = j + 1 } = numbered (record { 0 = j + 1 }) p (found_in s.requests j p at) in
          let real : (req.0 == 0) ≡ false = found_real s.requests req q found in
          let far : (j + 1 ≡ req.0 → ⊥) = (λ e. apart (let so : j ≡ req.0 - 1 = omega (arith, e) in so)) in
          let not_it : ((j + 1) == req.0) ≡ false = grind (arith, nat_tests, far) in
          ap passed nr ∙ others (record { 0 = j + 1 }) not_it ∙ sym (ap checking nr)
