-- Requests that were there before one is accepted, and a list of one request.
use Rattle.seen_facts.proofs.Request.Times.{itself}
use Rattle.log_model.specs.AfterRequests.{without_req}
use Rattle.std.proofs.Common.{◌≡◌, ℕ, ◌+◌, Bool, true, false, ◌==◌, List, [], ◌∷◌, ◌++◌, length, Some, None, refl, sym, ap, ◌∙◌, arith}
use Rattle.std.proofs.lemmas.Bool.Decides.{nat_tests}
use Rattle.log_model.specs.Seen.{Asked, request_in}
use Rattle.tab_ids.specs.declared.ReqId.{ReqId}
use Rattle.seen_facts.proofs.Request.LookUps.{none_before, others_before}

-- a request that is there isn't the next one
pub old_apart : (asked : List Asked) (new q : Asked) (req old : ReqId) → req.0 ≡ length asked + 1 → request_in asked old ≡ Some q → (req.0 == old.0) ≡ false
old_apart asked new q req old nr at = by_test (req.0 == old.0) refl
  where
    by_test : (b : Bool) → (req.0 == old.0) ≡ b → (req.0 == old.0) ≡ false
    by_test false e = e
    by_test true e =
        let same : old ≡ req = (let n : old.0 ≡ req.0 = grind (arith, nat_tests, e) in ap (λ (i : ℕ). let x : ReqId = record { 0 = i } in x) n) in
        let never : None ≡ Some q = sym (none_before asked new req nr) ∙ (ap (λ (x : ReqId). request_in asked x) (sym same) ∙ at) in absurd cc

-- a request that was there is there
pub still_there : (asked : List Asked) (new q : Asked) (req old : ReqId) → req.0 ≡ length asked + 1 → request_in asked old ≡ Some q → request_in (asked ++ new ∷ []) old ≡ Some q
still_there asked new q req old nr at =
    others_before asked new req nr old (old_apart asked new q req old nr at) ∙ at

-- a request that is alone in a list
pub without_itself : (req : ReqId) → without_req req (req ∷ []) ≡ []
without_itself req = rw (itself req) refl
