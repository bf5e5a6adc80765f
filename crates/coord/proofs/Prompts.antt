-- No prompt is up in a log that a coordinator stands for, since nobody was asked so far.
use Rattle.coord.specs.Standing.{StandsFor, nobody}
use Rattle.coord.specs.declared.coordinator.Coordinator.{Coordinator}
use Rattle.log_model.specs.Equal.{holds}
use Rattle.log_model.specs.Logs.{is_prompt_up}
use Rattle.log_model.specs.Seen.{Asked, Seen, request_in, request_of}
use Rattle.seen_laws.specs.Unasked.{unasked_request}
use Rattle.std.proofs.Common.{Bool, List, None, Option, [], ap, false, map, refl, subst, suc, true, zero, ℕ, ◌-◌, ◌==◌, ◌∷◌, ◌≡◌}
use Rattle.std.specs.Prelude.{if◌then◌else◌, slice_get}
use Rattle.tab_ids.specs.declared.ReqId.{ReqId}

-- a request that asks nobody has no prompt
none_at : (asked : List Asked) (n : ℕ) → false ≡ holds is_prompt_up (slice_get (map (unasked_request nobody) asked) n)
none_at [] n = refl
none_at (q ∷ asked) zero = refl
none_at (q ∷ asked) (suc n) = none_at asked n

none_in : (asked : List Asked) (req : ReqId) → false ≡ holds is_prompt_up (request_in (map (unasked_request nobody) asked) req)
none_in asked req = by_number (req.0 == 0)
  where
    by_number : (b : Bool) → false ≡ holds is_prompt_up (let o : Option Asked = if b then None else slice_get (map (unasked_request nobody) asked) (req.0 - 1) in o)
    by_number true = refl
    by_number false = none_at asked (req.0 - 1)

pub not_prompted : (s : Seen) (c : Coordinator) → StandsFor s c → (req : ReqId) → false ≡ holds is_prompt_up (request_of s req)
not_prompted s c stands req =
    subst (λ (asked : List Asked). false ≡ holds is_prompt_up (request_in asked req)) (ap (λ (x : Seen). x.requests) stands.but.plain) (none_in s.requests req)
