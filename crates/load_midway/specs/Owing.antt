-- What the rows owe that an event put out before a load passed its unload check in its midst.
-- This project's own.
use Rattle.checking_facts.specs.Checks.{just}
use Rattle.log_model.specs.Equal.{holds}
use Rattle.log_model.specs.Places.{is_load}
use Rattle.log_model.specs.Seen.{Asked, Seen, request_of}
use Rattle.log_model.specs.declared.outcome.Ending.TheVariants as endings
use Rattle.seen_laws.specs.InEvent.{InEvent}
use Rattle.seen_laws.specs.Unasked.{unbegun}
use Rattle.std.specs.Prelude.{Bool, Some, if◌then◌else◌, map, ◌&&◌}
use Rattle.tab_ids.specs.declared.ReqId.{ReqId}

-- the request, ended if it is a load
abbrev pub load_closed : Asked → Asked
load_closed q = record q { ending = if is_load q.what then Some endings.Applied else q.ending }

-- the log, where each load has ended
abbrev pub loads_closed : Seen → Seen
loads_closed s = record s { requests = map load_closed s.requests }

-- so it is, and this load hasn't begun
abbrev pub one_without : ReqId → Asked → Asked
one_without req q = load_closed (if just req q.nr && is_load q.what then unbegun q else q)

abbrev pub load_without : ReqId → Seen → Seen
load_without req s = record s { requests = map (one_without req) s.requests }

-- in the log the request is a load
abbrev pub is_load_in : Seen → ReqId → Bool
is_load_in s req = holds (λ (q : Asked). is_load q.what) (request_of s req)

-- the request is a load there, and the end pays what the rows before owed, if that is so of it without this load's beginning, and with each load ended: of all that a load changes as it passes, what rows owe reads alone that a load which began is the only one of its navigable, which is known of the end itself
unfoldable pub due_beside : InEvent → ReqId → Seen → Bool
due_beside e req end = is_load_in end req && e.due (load_without req end)
