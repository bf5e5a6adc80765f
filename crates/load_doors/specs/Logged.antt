-- An event whose own row was logged: what is known then of the log itself, in which requests may be in their unload checks.
-- HTML Standard, "checking if unloading is canceled". Which requests are in their check as the coordinator has it is this project's own.
use Rattle.unasked_dues.specs.Checking.{AreNumbered, NonePasses}
use Rattle.checking_facts.specs.Checks.{AreInCheck}
use Rattle.checking_facts.specs.Prompts.{AreAskedDuly, told_by}
use Rattle.unload_check.specs.Checks.{OpenCheck}
use Rattle.log_model.specs.After.{after}
use Rattle.log_model.specs.Seen.{Seen}
use Rattle.seen_laws.specs.InEvent.{InEvent, OwesNothing, log_of, now_of, row_of}
use Rattle.seen_laws.specs.Unasked.{unasked}
use Rattle.std.specs.Prelude.{List, [], ◌≡◌}
use Rattle.tab_ids.specs.declared.ReqId.{ReqId}

-- what the log would have come to as the event began had nobody been asked
abbrev pub seen_start : InEvent → Seen
seen_start e = unasked e.checking e.start

-- there the event's own row is read off
abbrev pub IsOwnRead : InEvent → Type 0
IsOwnRead e = now_of e [] ≡ after (seen_start e) (row_of e e.own)

-- nothing was put out before, so nothing is owed, and it is so; as the event began requests had their numbers; it is known who is in a check, of whom no traversal has passed; and a table with these checks stands for that
pub record IsLogged (e : InEvent) (checks : List (ReqId × OpenCheck)) : Type 0 where
  pub uncut : e.before ≡ []
  pub undue : OwesNothing e
  pub read : IsOwnRead e
  pub numbered : AreNumbered e.start
  pub checking : AreInCheck e.checking (log_of e [])
  pub calm : NonePasses e.checking (log_of e [])
  pub asked : AreAskedDuly e.checking e.start (log_of e []) (told_by e.ran checks [])
