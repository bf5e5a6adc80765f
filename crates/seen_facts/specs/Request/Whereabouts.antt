-- Where a request is while it is open: in one input, told of by one report, in the queue, held back, or at hand in the event.
-- This project's own; the queue is the HTML Standard's "session history traversal queue".
use Rattle.std.specs.Prelude.{◌≡◌, ℕ, ◌+◌, Bool, false, ◌==◌, List, [], ◌∷◌, map, filter_map, Option, if◌then◌else◌}
use Rattle.tab_ids.specs.declared.ReqId.{ReqId}
use Rattle.log_model.specs.declared.made.Made.{Made}
use Rattle.log_model.specs.declared.request.Poke.{Poke}
use Rattle.log_model.specs.Equal.{holds}
use Rattle.log_model.specs.Seen.{Seen, Desk, Asked, request_in}
use Rattle.log_model.specs.Places.{is_load}
use Rattle.log_model.specs.Once.{is_open}
use Rattle.log_model.specs.AfterRequests.{made_of_report}
use Rattle.seen_laws.proofs.Sums.{over}

-- how often a request is among these
abbrev pub times : ReqId → List ReqId → ℕ
times req [] = 0
times req (r ∷ reqs) = (if r.0 == req.0 then 1 else 0) + times req reqs

-- the requests of pokes, and those of which something was made
abbrev pub poked : List Poke → List ReqId
poked pokes = map (λ (poke : Poke). poke.req) pokes

abbrev pub answered_by : List Made → List ReqId
answered_by mades = map (λ (made : Made). made.req) mades

-- how often a desk has a request: as a poke of its input, and by what was made that its reports tell of
abbrev pub times_at : ReqId → Desk → ℕ
times_at req desk =
    times req (poked desk.input) + times req (answered_by (filter_map made_of_report desk.reports))

-- how often a request is anywhere: at the desks, in the queue, held back, or at hand
abbrev pub times_found : ReqId → List Desk → List ReqId → List ReqId → List ReqId → ℕ
times_found req desks joined parked hand =
    over (times_at req) desks + (times req joined + (times req parked + times req hand))

-- how often it is to be: once while it is open
abbrev pub times_due : Option Asked → ℕ
times_due asked = if holds is_open asked then 1 else 0

-- it is a load: one that is on its way is elsewhere, too
abbrev pub is_of_load : Option Asked → Bool
is_of_load asked = holds (λ (q : Asked). is_load q.what) asked

-- each request but a load is once where it may be, while it is open, and nowhere once it ended or before it is accepted
abbrev pub EachIsOnce : List Asked → List Desk → List ReqId → List ReqId → List ReqId → Type 0
EachIsOnce asked desks joined parked hand =
    (req : ReqId) → is_of_load (request_in asked req) ≡ false → times_found req desks joined parked hand ≡ times_due (request_in asked req)

-- so it is where these are at hand: they are at no other place, and the event is to end them or to put them there
abbrev pub AreOnce : Seen → List ReqId → Type 0
AreOnce s hand = EachIsOnce s.requests s.desks s.joined s.parked hand
