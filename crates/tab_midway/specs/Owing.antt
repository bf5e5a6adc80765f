-- What the rows owe that an event put out before a traversal or load passed its unload check in its midst.
-- This project's own.
use Rattle.checking_facts.specs.Checks.{just}
use Rattle.log_model.specs.Places.{aim_of}
use Rattle.log_model.specs.Seen.{Asked, Seen}
use Rattle.log_model.specs.declared.outcome.Ending.TheVariants as endings
use Rattle.seen_laws.specs.InEvent.{InEvent}
use Rattle.seen_laws.specs.Unasked.{unasked}
use Rattle.std.specs.Prelude.{Bool, None, Some, map, ℕ}
use Rattle.tab_ids.specs.declared.ReqId.{ReqId}

-- the request, ended
abbrev pub closed : Asked → Asked
closed q = record q { ending = Some endings.Applied }

-- the log brought to the step: that is the current one, each request has ended, so none leads to another and no load is ongoing, and no reload or load is noted as the last one applied
abbrev pub brought_to : ℕ → Seen → Seen
brought_to step s =
    record s {
      history = record s.history { current = step };
      requests = map closed s.requests;
      last_step = None;
    }

-- the end pays what the rows before owed, if that is so of it without this request's beginning, brought to where it is brought: of all that a traversal or load changes as it passes, what rows owe reads where the history is brought, and that a load which began is the only one of its navigable, which is known of the end itself
unfoldable pub due_without : InEvent → ReqId → Seen → Bool
due_without e req end = e.due (brought_to (aim_of end) (unasked (just req) end))
