-- Where the request of a load is while it is open: on its way, as it has begun or its fragment order was sent; else where any request is: told of by a report, held back, or at hand in the event.
-- HTML Standard, "Beginning navigation" ("navigate") and "Fragment navigations" ("navigate to a fragment"); orders, reports and what is at hand are this project's own.
use Rattle.std.specs.Prelude.{◌≡◌, ℕ, ◌+◌, Bool, true, ◌&&◌, List, Option, None, Some, is_none, is_some, if◌then◌else◌}
use Rattle.tab_ids.specs.declared.ReqId.{ReqId}
use Rattle.log_model.specs.Seen.{Seen, Desk, Asked, request_in}
use Rattle.log_model.specs.Places.{is_ongoing_load}
use Rattle.log_model.specs.Once.{is_open}
use Rattle.seen_facts.specs.Request.Whereabouts.{times_found, times_due, is_of_load}

-- a fragment order was sent for the load, and its document made nothing of it yet
abbrev pub waits_to_fragment : Asked → Bool
waits_to_fragment q = (is_open q && is_none q.made) && is_some q.fragment

-- how often a request is on its way: as a load that has begun, and as one whose fragment order was sent
abbrev pub ways_of : Asked → ℕ
ways_of q = (if is_ongoing_load q then 1 else 0) + (if waits_to_fragment q then 1 else 0)

abbrev pub times_on_way : Option Asked → ℕ
times_on_way None = 0
times_on_way (Some q) = ways_of q

-- how often a load is anywhere: on its way, or where any request may be
abbrev pub times_of_load : ReqId → List Asked → List Desk → List ReqId → List ReqId → List ReqId → ℕ
times_of_load req asked desks joined parked hand =
    times_found req desks joined parked hand + times_on_way (request_in asked req)

-- each load is once where it may be, while it is open, and nowhere once it ended
abbrev pub EachLoadIsOnce : List Asked → List Desk → List ReqId → List ReqId → List ReqId → Type 0
EachLoadIsOnce asked desks joined parked hand =
    (req : ReqId) → is_of_load (request_in asked req) ≡ true → times_of_load req asked desks joined parked hand ≡ times_due (request_in asked req)

-- so it is where these are at hand: a load is from its acceptance until it begins, ends or its fragment order is sent, and from the delivery of what was made of that order until it ends
abbrev pub AreLoadsOnce : Seen → List ReqId → Type 0
AreLoadsOnce s hand = EachLoadIsOnce s.requests s.desks s.joined s.parked hand
